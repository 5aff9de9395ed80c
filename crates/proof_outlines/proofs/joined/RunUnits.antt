-- What an instance notes as processed ran in the network with shares.
use Rattle.proof_outlines.proofs.Words.{◌≡◌, ℕ, suc, ◌≤◌, Some, List, [], refl, filter_map, Fits, Semantics, Msg, instance_step, Records, NumberedInstance}
use Rattle.proof_outlines.proofs.Words.{inst_step, everything, Any, Old, New, Shared_on, ShareMsg, WholeWorld, member_step, FunctionLaws, InstanceState}
use Rattle.proof_outlines.proofs.Words.{MoveMsg}
use Rattle.proof_machines.proofs.unit.Real as real
use Rattle.proof_machines.proofs.net.Net as net
use Rattle.proof_outlines.proofs.joined.Words.{number, rule_of, entries, outline_piece, ran_in, outline_instance, carry_follows, pass_follows, fence_follows}
use Rattle.proof_outlines.proofs.joined.Words.{enable_follows, stream_follows, delete_follows, put_follows, restore_follows, Given, place, S, A, shown, Label}
use Rattle.proof_outlines.proofs.joined.Words.{IsInstanceAt}
use Rattle.proof_outlines.proofs.whole.MemberOutline.{shared_follows, get_follows, sync_follows}
use Rattle.proof_outlines.proofs.whole.StandbyKept.{get_all_keeps, standby_keeps, put_all_keeps}
use Rattle.proof_outlines.proofs.joined.InstanceKeeps.{chunks_good}
use Rattle.proof_outlines.proofs.joined.InstanceRows.{sound_part}
use Rattle.proof_outlines.proofs.joined.InstanceMessages.{Rows, by_message}

module _ {R : Type 0} (f : Semantics R) (g : Given) where
  -- the packets that run at an instance with these records standing by, where it takes a message
  abbrev pub ran_any : NumberedInstance (S f g) → Records R → Any R → List ℕ
  ran_any i standby (Old m) = (inst_step (S f g) i m).ran
  ran_any i standby (New m) = (member_step (S f g) (A f g) i.live standby m).ran

module _ {F R : Type 0} (f : Semantics R) (laws : FunctionLaws f) (g : Given) (fitting : (number : ℕ) → Fits g.site (g.packet number)) where
  -- what is noted as processed is what ran
  pub data RanAs (i : InstanceState F R) (m : Msg) : Type 0 where
    Seen : (a : Any R) → shown f g m ≡ Some a
        → filter_map ran_in (instance_step f i m).notes ≡ ran_any f g (outline_instance f g.site g.packet i) i.table.standby a → RanAs i m
    Unseen : filter_map ran_in (instance_step f i m).notes ≡ [] → RanAs i m

  pub ran_as : (k : ℕ) (i : InstanceState F R) (w : WholeWorld (S f g) (A f g)) → 2 ≤ k → IsInstanceAt f g k i w → (p j : ℕ) (m : Msg)
      → Label f g p (suc (suc j)) m → RanAs i m
  ran_as k i w two at p j m label = by_message f g (λ y. RanAs i y) p j rows m label
    where
      rows : Rows f g (λ y. RanAs i y)
      rows = record {
        carry = λ cell e. Seen (Old (net.Carry_on (number cell))) refl (carry_follows f g.site g.packet (place g) i cell at.rules e).ran;
        pass = λ op cell e. Seen (Old (net.Pass_on (number cell))) refl (pass_follows f g.site g.packet (place g) i op cell at.rules e).ran;
        shared = λ op home cell e. Seen (New (Shared_on op home (number cell))) refl
            (shared_follows f laws g.site g.packet (place g) i op home cell at.rules e (sound_part f laws g fitting k two i home cell
            (record { rules = at.rules; held = at.held; sound = at.records.sound; number = at.number }) at.stands.sound e)).ran;
        fence = λ op. Seen (Old (net.Fence_on op)) refl (fence_follows f g.site g.packet (place g) i op at.rules).ran;
        stop = Unseen refl;
        enable = λ op filter act w e. Seen (Old (net.Of_move filter (MoveMsg.Enable op (rule_of act)))) refl
            (enable_follows f g.site g.packet (place g) i op filter act).ran;
        stream = λ op filter w. Seen (Old (net.Of_move filter (MoveMsg.Stream op))) refl
            (stream_follows f laws g.site g.packet (place g) i op filter w at.records).ran;
        delete = λ op gone. Seen (Old (net.Of_move everything (MoveMsg.Delete op gone))) refl (delete_follows f laws g.site g.packet (place g) i op gone).ran;
        put = λ op piece first e. Seen (Old (net.Of_move everything (MoveMsg.Put op (outline_piece f piece) first))) refl
            (put_follows f laws g.site g.packet (place g) i op piece first (chunks_good f laws g piece.chunks e.good) e.few).ran;
        restore = λ op chunks e. Seen (Old (net.Of_move everything (MoveMsg.Restore op (entries f chunks)))) refl
            (restore_follows f laws g.site g.packet (place g) i op chunks (chunks_good f laws g chunks e)).ran;
        get = λ op filter w. Seen (New (ShareMsg.Get op filter)) refl (get_follows f laws g.site g.packet (place g) i op filter w at.records).ran;
        get_all = λ op. Unseen (get_all_keeps f g.site g.packet (place g) i op).ran;
        standby = λ op chunks e. Unseen (standby_keeps f g.site g.packet (place g) i op chunks (chunks_good f laws g chunks e)).ran;
        put_all = λ op chunk. Unseen (put_all_keeps f g.site g.packet (place g) i op chunk).ran;
        sync = λ home op chunks e. Seen (New (ShareMsg.Sync op home (entries f chunks))) refl
            (sync_follows f laws g.site g.packet (place g) i home op chunks (chunks_good f laws g chunks e)).ran;
      }
