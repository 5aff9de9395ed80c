-- Each step from each stage leads to a stage: in order, and with packets processed at the stage's side alone (`goes_on`).
use Rattle.proof_machines.proofs.unit.Words.{Steps, MachineStep, Stage, At_rest, Begun, Frozen, Stream_goes, Streams, All_put, Hold_goes, Held, Laying, Turned}
use Rattle.proof_machines.proofs.unit.Words.{Fenced_a, Ending_b, Fence_b, Turned_loose, Fenced_loose, Ending_loose, Fence_loose, Fenced_b, Moved, Restore_goes}
use Rattle.proof_machines.proofs.unit.Words.{Restored_comes, Turn_goes, Turned_back, Returned, Fence_a, Fenced_back, Undone, shape, Allowed, GoesOn, at_rest}
use Rattle.proof_machines.proofs.unit.Words.{begun_on, frozen, stream_goes}
use Rattle.proof_machines.proofs.unit.Doors.{streams}
use Rattle.proof_machines.proofs.unit.Late.{all_put, hold_goes, held_on, laying, turned, fenced_a, ending, fence_b, fenced_b, moved_on}
use Rattle.proof_machines.proofs.unit.Loose.{turned_loose, fenced_loose, ending_loose, fence_loose}
use Rattle.proof_machines.proofs.unit.Back.{restore_goes, restored, turn_goes, turned_back, returned, fence_a, fenced_back, undone}

pub goes_on : {R : Type 0} (F : Steps R) (s : Stage F) (m : MachineStep R) → Allowed (shape F s) m → GoesOn F s m
goes_on F (At_rest d l k) m a = at_rest F d l k m
goes_on F (Begun d l k) m a = begun_on F d l k m
goes_on F (Frozen d e l k) m a = frozen F d e l k m
goes_on F (Stream_goes d f e l k) m a = stream_goes F d f e l k m a
goes_on F (Streams d f y q l k s w) m a = streams F d f y q l k s w m
goes_on F (All_put d f e l k) m a = all_put F d f e l k m
goes_on F (Hold_goes d f e l) m a = hold_goes F d f e l m
goes_on F (Held d f e l) m a = held_on F d f e l m
goes_on F (Laying d x f g e l k) m a = laying F d x f g e l k m
goes_on F (Turned d x f e l h) m a = turned F d x f e l h m
goes_on F (Fenced_a d x f e h) m a = fenced_a F d x f e h m
goes_on F (Ending_b d x f h) m a = ending F d x f h m
goes_on F (Fence_b d x n h) m a = fence_b F d x n h m
goes_on F (Turned_loose d x f e l) m a = turned_loose F d x f e l m
goes_on F (Fenced_loose d x f e) m a = fenced_loose F d x f e m
goes_on F (Ending_loose d x f) m a = ending_loose F d x f m
goes_on F (Fence_loose d x n) m a = fence_loose F d x n m
goes_on F (Fenced_b d l k) m a = fenced_b F d l k m
goes_on F (Moved d l k) m a = moved_on F d l k m
goes_on F (Restore_goes d f e l k why) m a = restore_goes F d f e l k why m
goes_on F (Restored_comes d f e g l k why) m a = restored F d f e g l k why m
goes_on F (Turn_goes d f e l k why) m a = turn_goes F d f e l k why m
goes_on F (Turned_back d f e h l k why) m a = turned_back F d f e h l k why m
goes_on F (Returned d x f h k why) m a = returned F d x f h k why m
goes_on F (Fence_a d x n h k why) m a = fence_a F d x n h k why m
goes_on F (Fenced_back d l k why) m a = fenced_back F d l k why m
goes_on F (Undone d l k why) m a = undone F d l k why m
