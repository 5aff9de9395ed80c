-- The table of a move over other parcels, pieces and words: what holds between what the words of two tables come to holds between their rows.
-- So what is seen of a row is the row of what is seen.
use Rattle.proof_machines.proofs.unit.Words.{◌≡◌, Bool, true, false, List, [], ◌∷◌, ◌++◌, map, refl, sym, subst, if◌then◌else◌, ◌&&◌, ◌||◌, map-append, Answer}
use Rattle.proof_machines.proofs.unit.Words.{Door, Shut, Asked, Open, Refused, PhaseOf, Freezing, Streaming, Holding, Restoring, Returning, Words, Nothing}
use Rattle.proof_machines.proofs.unit.Words.{Remove, Hold_at_source, Ask, Hold_at_destination, Release, Give_back, asking, push_on, all_put, is_nil, on_event}
use Rattle.proof_machines.proofs.unit.Words.{on_source_enabled, on_piece, on_deleted, on_restored, on_source_fenced, on_put_ok, on_put_no}
use Rattle.proof_machines.proofs.unit.Words.{on_destination_enabled, on_destination_fenced}
use Rattle.move_op.specs.Phases.{Passing, Ending, Undoing, Over}
use Rattle.move_op.specs.Table.{Stream, Restore, Put, Forward, Fence}

-- a phase with other pieces, and another word for how it ended
abbrev pub map_phase : {C O D U : Type 0} → (C → D) → (O → U) → PhaseOf C O → PhaseOf D U
map_phase g h Freezing = Freezing
map_phase g h (Streaming to_remove removed came door) = Streaming (map g to_remove) (map g removed) came door
map_phase g h Holding = Holding
map_phase g h Passing = Passing
map_phase g h Ending = Ending
map_phase g h (Restoring why) = Restoring why
map_phase g h (Returning why) = Returning why
map_phase g h (Undoing why) = Undoing why
map_phase g h (Over outcome) = Over (h outcome)

-- what is to hold between the words of two tables, where these parcels are stored
pub record Follow {P C O N T Q D U M V : Type 0} (w : Words P C O N T) (v : Words Q D U M V) (stored : List P) (seen : List Q) (g : C → D) (h : O → U)
    (Leads : N → M → Type 0) (Gives : T → V → Type 0) : Type 0 where
  pub last : (c : C) → v.is_last (g c) ≡ w.is_last c
  pub done : v.done ≡ h w.done
  pub nothing : (ph : PhaseOf C O) → Leads (w.next ph Nothing) (v.next (map_phase g h ph) Nothing)
  pub stream : Leads (w.next (Streaming [] [] false Shut) Stream) (v.next (Streaming [] [] false Shut) Stream)
  pub restore : (why : Answer) (cs : List C) → Leads (w.next (Restoring why) (Restore cs)) (v.next (Restoring why) (Restore (map g cs)))
  pub hold_at_source : (why : Answer) → Leads (w.next (Returning why) Hold_at_source) (v.next (Returning why) Hold_at_source)
  pub ask : (a b : List C) (came : Bool) (c : C)
      → Leads (w.next (Streaming a b came (Asked (w.is_last c))) (Ask c)) (v.next (Streaming (map g a) (map g b) came (Asked (w.is_last c))) (Ask (g c)))
  pub put : (a b : List C) (came : Bool) → Leads (w.next (Streaming a [] came Open) (Put b)) (v.next (Streaming (map g a) [] came Open) (Put (map g b)))
  pub hold_at_destination : Leads (w.next Holding Hold_at_destination) (v.next Holding Hold_at_destination)
  pub release : Leads (w.next Passing (Release stored)) (v.next Passing (Release seen))
  pub give_back : (why : Answer) → Leads (w.next (Undoing why) (Give_back stored)) (v.next (Undoing why) (Give_back seen))
  pub fence : Leads (w.next Ending Fence) (v.next Ending Fence)
  pub keeps : {n : N} {m : M} → Leads n m → Gives (w.keeps n) (v.keeps m)
  pub empties : {n : N} {m : M} → Leads n m → Gives (w.stores [] n) (v.stores [] m)

nil-map : {X Y : Type 0} (g : X → Y) (xs : List X) → is_nil (map g xs) ≡ is_nil xs
nil-map g [] = refl
nil-map g (x ∷ xs) = refl

module _ {P C O N T Q D U M V : Type 0} {w : Words P C O N T} {v : Words Q D U M V} {stored : List P} {seen : List Q} {g : C → D} {h : O → U}
    {Leads : N → M → Type 0} {Gives : T → V → Type 0} (f : Follow w v stored seen g h Leads Gives) where
  either : (t : Bool) (n k : N) (m l : M) → Leads n m → Leads k l → Leads (if t then n else k) (if t then m else l)
  either true n k m l a b = a
  either false n k m l a b = b

  asked : (a b : List C) (came : Bool) → Leads (asking w a b came) (asking v (map g a) (map g b) came)
  asked a [] came = f.nothing (Streaming a [] came Shut)
  asked a (c ∷ b) came = subst (λ last. Leads (w.next (Streaming a b came (Asked (w.is_last c))) (Ask c))
      (v.next (Streaming (map g a) (map g b) came (Asked last)) (Ask (g c)))) (sym (f.last c)) (f.ask a b came c)

  pushed : (a b : List C) (came : Bool) (d : Door) → Leads (push_on w a b came d) (push_on v (map g a) (map g b) came d)
  pushed a b came Shut = asked a b came
  pushed a b came (Asked last) = f.nothing (Streaming a b came (Asked last))
  pushed a b came Open = f.put a b came
  pushed a b came (Refused why) = subst (λ n. Leads (push_on w a b came (Refused why)) (if came && n
      then v.next (Restoring why) (Restore (map g b)) else v.next (Streaming (map g a) (map g b) came (Refused why)) Nothing))
      (sym (nil-map g a)) (either (came && is_nil a) _ _ _ _ (f.restore why b) (f.nothing (Streaming a b came (Refused why))))

  all_puts : (keep : Bool) → Gives (all_put w stored keep) (all_put v seen keep)
  all_puts true = f.keeps f.hold_at_destination
  all_puts false = f.empties f.release

  kept_puts : v.keep ≡ w.keep → Gives (all_put w stored w.keep) (all_put v seen v.keep)
  kept_puts e = subst (λ keep. Gives (all_put w stored w.keep) (all_put v seen keep)) (sym e) (all_puts w.keep)

  pub event_follows : (p : P) (q : Q) → Leads (w.next Passing (Forward p)) (v.next Passing (Forward q))
      → ((n : N) (m : M) → Leads n m → Gives (w.stores (stored ++ p ∷ []) n) (v.stores (seen ++ q ∷ []) m))
      → (ph : PhaseOf C O) → Gives (on_event w ph stored p) (on_event v (map_phase g h ph) seen q)
  event_follows p q sent added Passing = f.keeps sent
  event_follows p q sent added ph = added _ _ (f.nothing ph)

  pub source_enabled_follows : (ph : PhaseOf C O) → Gives (on_source_enabled w ph stored) (on_source_enabled v (map_phase g h ph) seen)
  source_enabled_follows Freezing = f.keeps f.stream
  source_enabled_follows (Returning why) = f.empties (f.give_back why)
  source_enabled_follows ph = f.keeps (f.nothing ph)

  -- the piece can be removed, as it is seen too
  pub piece_follows : (c : C) → w.has_units c ≡ true → v.has_units (g c) ≡ true
      → ((ph : PhaseOf C O) → Leads (w.next ph (Remove c)) (v.next (map_phase g h ph) (Remove (g c))))
      → (ph : PhaseOf C O) → Leads (on_piece w ph c) (on_piece v (map_phase g h ph) (g c))
  piece_follows c here there removed (Streaming a b came d) =
      let one = f.last c in let put = map-append g a (c ∷ []) in
      rw (here, there, one, ← put) (removed (Streaming (a ++ c ∷ []) b (came || w.is_last c) d))
  piece_follows c here there removed ph = f.nothing ph

  pub deleted_follows : (ph : PhaseOf C O) → Leads (on_deleted w ph) (on_deleted v (map_phase g h ph))
  deleted_follows (Streaming (c ∷ a) b came d) =
      subst (λ cs. Leads (push_on w a (b ++ c ∷ []) came d) (push_on v (map g a) cs came d)) (map-append g b (c ∷ [])) (pushed a (b ++ c ∷ []) came d)
  deleted_follows (Streaming [] b came d) = f.nothing (Streaming [] b came d)
  deleted_follows ph = f.nothing ph

  pub restored_follows : (ph : PhaseOf C O) → Leads (on_restored w ph) (on_restored v (map_phase g h ph))
  restored_follows (Restoring why) = f.hold_at_source why
  restored_follows ph = f.nothing ph

  -- a refusal is seen as one
  pub source_fenced_follows : (ph : PhaseOf C O) → ((why : Answer) → ph ≡ Undoing why → v.refused why ≡ h (w.refused why))
      → Leads (on_source_fenced w ph) (on_source_fenced v (map_phase g h ph))
  source_fenced_follows Passing e = f.fence
  source_fenced_follows (Undoing why) e = subst (λ u. Leads (w.next (Over (w.refused why)) Nothing) (v.next (Over u) Nothing)) (sym (e why refl))
      (f.nothing (Over (w.refused why)))
  source_fenced_follows ph e = f.nothing ph

  pub put_ok_follows : v.keep ≡ w.keep → (ph : PhaseOf C O) → Gives (on_put_ok w ph stored) (on_put_ok v (map_phase g h ph) seen)
  put_ok_follows e (Streaming a b came (Asked true)) = kept_puts e
  put_ok_follows e (Streaming a b came (Asked false)) = f.keeps (pushed a b came Open)
  put_ok_follows e (Streaming a b came Open) = kept_puts e
  put_ok_follows e (Streaming a b came Shut) = f.keeps (f.nothing (Streaming a b came Shut))
  put_ok_follows e (Streaming a b came (Refused why)) = f.keeps (f.nothing (Streaming a b came (Refused why)))
  put_ok_follows e ph = f.keeps (f.nothing ph)

  pub put_no_follows : (why : Answer) (back : Bool → C) (seen_back : Bool → D) → ((last : Bool) → seen_back last ≡ g (back last))
      → (ph : PhaseOf C O) → Leads (on_put_no w ph why back) (on_put_no v (map_phase g h ph) why seen_back)
  put_no_follows why back seen_back same (Streaming a b came (Asked last)) =
      subst (λ d. Leads (push_on w a (back last ∷ b) came (Refused why)) (push_on v (map g a) (d ∷ map g b) came (Refused why)))
      (sym (same last)) (pushed a (back last ∷ b) came (Refused why))
  put_no_follows why back seen_back same ph = f.nothing ph

  pub destination_enabled_follows : (ph : PhaseOf C O) → Gives (on_destination_enabled w ph stored) (on_destination_enabled v (map_phase g h ph) seen)
  destination_enabled_follows Holding = f.empties f.release
  destination_enabled_follows ph = f.keeps (f.nothing ph)

  pub destination_fenced_follows : (ph : PhaseOf C O) → Leads (on_destination_fenced w ph) (on_destination_fenced v (map_phase g h ph))
  destination_fenced_follows Ending = subst (λ u. Leads (w.next (Over w.done) Nothing) (v.next (Over u) Nothing)) (sym f.done) (f.nothing (Over w.done))
  destination_fenced_follows ph = f.nothing ph
