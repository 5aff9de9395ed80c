-- An instance's step on each message of a run leads from a world of a run to one, by the rows of InstanceSteps.
use Rattle.proof_outlines.proofs.Words.{◌≡◌, ℕ, zero, suc, ◌≤◌, Bool, true, false, Some, None, List, refl, arith, Filter, Chunk, Fits, Semantics, Records}
use Rattle.proof_outlines.proofs.Words.{newest_of, Piece, Msg, FullCell, Action, instance_step, inst_step, everything, is_free, Old, New, ShareMsg, Shared_on}
use Rattle.proof_outlines.proofs.Words.{member_step, MayKeep, node_step, Unit, Mark, FunctionLaws, records_of, InstanceState, MoveMsg}
use Rattle.proof_machines.proofs.unit.Real as real
use Rattle.proof_machines.proofs.net.Net as net
use Rattle.proof_outlines.proofs.joined.Words.{is_whole, number, rule_of, entries, outline_piece, outline_instance, is_sys, Follows, carry_follows}
use Rattle.proof_outlines.proofs.joined.Words.{pass_follows, fence_follows, enable_follows, stream_follows, delete_follows, put_follows, restore_follows, Given}
use Rattle.proof_outlines.proofs.joined.Words.{place, Scene, S, A, shown, came_by, Genuine, AreGoodChunks, IsGoodPiece, Label, IsInstanceAt, AreShown, IsTaken}
use Rattle.proof_outlines.proofs.joined.Words.{Leads, node_of}
use Rattle.proof_outlines.proofs.whole.MemberOutline.{MemberFollows, shared_follows, get_follows, sync_follows}
use Rattle.proof_outlines.proofs.whole.StandbyKept.{leaves_standby, whole_follows, Keeps, standby_keeps, stop_keeps, get_all_keeps, put_all_keeps}
use Rattle.proof_outlines.proofs.whole.InstanceWorlds.{ShowsAt, old_steps, new_steps, keeps_steps}
use Rattle.proof_outlines.proofs.joined.InstanceKeeps.{chunks_good}
use Rattle.proof_outlines.proofs.joined.InstanceRows.{IsRight, Leaves, sound_part, instance_leaves}
use Rattle.proof_outlines.proofs.joined.StandbyChunks.{MayStandBy, same_may_keep, chunks_may_keep}
use Rattle.proof_outlines.proofs.joined.InstanceSteps.{shown_leads, keeps_leads}

-- The messages that an instance takes in a run.
module _ {R : Type 0} (f : Semantics R) (g : Given) (Goal : Msg → Type 0) where
  pub record Rows : Type 0 where
    pub carry : (cell : FullCell) → Genuine f g cell → Goal (Msg.Carry Mark.Plain cell)
    pub pass : (op : ℕ) (cell : FullCell) → Genuine f g cell → Goal (Msg.Carry (Mark.Pass op) cell)
    pub shared : (op : ℕ) (home : Bool) (cell : FullCell) → Genuine f g cell → Goal (Msg.Carry (Mark.Shared op home) cell)
    pub fence : (op : ℕ) → Goal (Msg.Fence op)
    pub stop : Goal Msg.Stop
    pub enable : (op : ℕ) (filter : Filter) (act : Action) → is_whole f.kind filter ≡ true → is_free (rule_of act) ≡ false → Goal (Msg.Enable op filter act)
    pub stream : (op : ℕ) (filter : Filter) → is_whole f.kind filter ≡ true → Goal (Msg.Stream op filter)
    pub delete : (op : ℕ) (gone : List Unit) → Goal (Msg.Delete op gone)
    pub put : (op : ℕ) (piece : Piece) (first : Bool) → IsGoodPiece f g piece → Goal (Msg.Put op piece first)
    pub restore : (op : ℕ) (chunks : List Chunk) → AreGoodChunks f g chunks → Goal (Msg.Restore op chunks)
    pub get : (op : ℕ) (filter : Filter) → is_whole f.kind filter ≡ true → Goal (Msg.Get op filter)
    pub get_all : (op : ℕ) → Goal (Msg.GetAll op)
    pub standby : (op : ℕ) (chunks : List Chunk) → AreGoodChunks f g chunks → Goal (Msg.Standby op chunks)
    pub put_all : (op : ℕ) (chunk : Chunk) → Goal (Msg.PutAll op chunk)
    pub sync : (home : Bool) (op : ℕ) (chunks : List Chunk) → AreGoodChunks f g chunks → Goal (Msg.Sync home op chunks)

  pub by_message : (p j : ℕ) → Rows → (m : Msg) → Label f g p (suc (suc j)) m → Goal m
  by_message p j r (Msg.Carry Mark.Plain cell) label = r.carry cell label.1
  by_message p j r (Msg.Carry (Mark.Pass op) cell) label = r.pass op cell label.1
  by_message p j r (Msg.Carry (Mark.Shared op home) cell) label = r.shared op home cell label.1
  by_message p j r (Msg.Fence op) label = r.fence op
  by_message p j r Msg.Stop label = r.stop
  by_message p j r (Msg.Enable op filter act) label = r.enable op filter act label.1 label.2
  by_message p j r (Msg.Stream op filter) label = r.stream op filter label.1
  by_message p j r (Msg.Delete op gone) label = r.delete op gone
  by_message p j r (Msg.Put op piece first) label = r.put op piece first label.1
  by_message p j r (Msg.Restore op chunks) label = r.restore op chunks label.1
  by_message p j r (Msg.Get op filter) label = r.get op filter label.1
  by_message p j r (Msg.GetAll op) label = r.get_all op
  by_message p j r (Msg.Standby op chunks) label = r.standby op chunks label.1
  by_message p j r (Msg.PutAll op chunk) label = r.put_all op chunk
  by_message p j r (Msg.Sync home op chunks) label = r.sync home op chunks label.1
  by_message p j r m label = absurd (first_of (assumption, omega arith))

-- Each message by these.
module _ {F R : Type 0} (f : Semantics R) (laws : FunctionLaws f) (g : Given) (fitting : (number : ℕ) → Fits g.site (g.packet number)) (n : ℕ) (x : Scene F f g)
    (p : ℕ) (j : ℕ) where
  abbrev Now : Msg → Type 0
  Now m = Leads f g n x (record { node = suc (suc j); port = p; message = m }) (node_step f (node_of x.nodes (suc (suc j))) p m)

  abbrev IsTakenHere : Msg → Type 0
  IsTakenHere m = IsTaken f g n x (record { node = suc (suc j); port = p; message = m })

  -- where a copy's chunks come, they may stand by
  abbrev MayStand : Msg → Type 0
  MayStand m = (op : ℕ) (chunks : List Chunk) → m ≡ Msg.Standby op chunks → MayStandBy f g x.world chunks

  module _ (are : AreShown f g n x) (at : IsInstanceAt f g (suc (suc j)) (x.nodes.instance (suc (suc j))) x.world) (two : 2 ≤ suc (suc j)) where
    abbrev own_at : InstanceState F R
    own_at = x.nodes.instance (suc (suc j))

    right : IsRight f g (suc (suc j)) own_at
    right = record { rules = at.rules; held = at.held; sound = at.records.sound; number = at.number }

    shows : ShowsAt f g.site g.packet (suc (suc j)) x.world own_at
    shows = record { inst = at.outline_is; standby = at.standby_is }

    -- what each message leaves
    leaves : (m : Msg) → IsTakenHere m → Leaves f g (suc (suc j)) (instance_step f own_at m)
    leaves m is = instance_leaves f laws g fitting (suc (suc j)) two own_at m p is.label right at.stands.sound

    -- a message of a move
    old_leads : (m : Msg) (seen : net.Msg R) → shown f g m ≡ Some (Old seen) → leaves_standby m ≡ true
        → Follows f g.site g.packet (place g) (instance_step f own_at m) (inst_step (S f g) (outline_instance f g.site g.packet own_at) seen)
        → IsTakenHere m → MayStand m → Now m
    old_leads m seen shown_as e follows is may =
        let did = inst_step (S f g) (outline_instance f g.site g.packet own_at) seen in
        shown_leads f laws g n x p j m (Old seen) are is shown_as
        (old_steps f g.site g.packet (place g) x.world p (suc (suc j)) own_at (instance_step f own_at m) seen shows
        (whole_follows f g.site g.packet (place g) own_at m did e follows))
        (leaves m is)

    -- one of a share
    new_leads : (m : Msg) (seen : ShareMsg R) → shown f g m ≡ Some (New seen)
        → MemberFollows f g.site g.packet (place g) own_at (instance_step f own_at m) (member_step (S f g) (A f g) own_at.table.live own_at.table.standby seen)
        → IsTakenHere m → MayStand m → Now m
    new_leads m seen shown_as follows is may =
        shown_leads f laws g n x p j m (New seen) are is shown_as
        (new_steps f g.site g.packet (place g) x.world p (suc (suc j)) own_at (instance_step f own_at m) seen shows follows) (leaves m is)

    -- one that isn't seen, after which these records stand by
    unseen_leads : (m : Msg) (records : Records R) → shown f g m ≡ None
        → Keeps f g.site g.packet (place g) own_at (instance_step f own_at m) records
        → MayKeep (S f g) (A f g) (is_sys f g.site g.packet) x.world (suc (suc j)) records → IsTakenHere m → Now m
    unseen_leads m records hidden kept may is =
        keeps_leads f laws g n x p j m records are hidden
        (keeps_steps f g.site g.packet (place g) x.world p (suc (suc j)) own_at (instance_step f own_at m) records shows kept) may (leaves m is)

    same_keep : MayKeep (S f g) (A f g) (is_sys f g.site g.packet) x.world (suc (suc j)) own_at.table.standby
    same_keep = same_may_keep f g x.world (came_by f g x.log) are.every (suc (suc j)) own_at.table.standby at.standby_is

    all_rows : Rows f g (λ m. IsTakenHere m → MayStand m → Now m)
    all_rows = record {
      carry = λ cell e. old_leads (Msg.Carry Mark.Plain cell) (net.Carry_on (number cell)) refl refl
          (carry_follows f g.site g.packet (place g) own_at cell right.rules e);
      pass = λ op cell e. old_leads (Msg.Carry (Mark.Pass op) cell) (net.Pass_on (number cell)) refl refl
          (pass_follows f g.site g.packet (place g) own_at op cell right.rules e);
      shared = λ op home cell e. new_leads (Msg.Carry (Mark.Shared op home) cell) (Shared_on op home (number cell)) refl (shared_follows f laws
          g.site g.packet (place g) own_at op home cell right.rules e (sound_part f laws g fitting (suc (suc j)) two own_at home cell right at.stands.sound e));
      fence = λ op. old_leads (Msg.Fence op) (net.Fence_on op) refl refl (fence_follows f g.site g.packet (place g) own_at op right.rules);
      stop = λ is may. unseen_leads Msg.Stop own_at.table.standby refl (stop_keeps f g.site g.packet (place g) own_at) same_keep is;
      enable = λ op filter act w e. old_leads (Msg.Enable op filter act) (net.Of_move filter (MoveMsg.Enable op (rule_of act))) refl refl
          (enable_follows f g.site g.packet (place g) own_at op filter act);
      stream = λ op filter w. old_leads (Msg.Stream op filter) (net.Of_move filter (MoveMsg.Stream op)) refl refl
          (stream_follows f laws g.site g.packet (place g) own_at op filter w at.records);
      delete = λ op gone. old_leads (Msg.Delete op gone) (net.Of_move everything (MoveMsg.Delete op gone)) refl refl
          (delete_follows f laws g.site g.packet (place g) own_at op gone);
      put = λ op piece first e. old_leads (Msg.Put op piece first) (net.Of_move everything (MoveMsg.Put op (outline_piece f piece) first)) refl refl
          (put_follows f laws g.site g.packet (place g) own_at op piece first (chunks_good f laws g piece.chunks e.good) e.few);
      restore = λ op chunks e. old_leads (Msg.Restore op chunks) (net.Of_move everything (MoveMsg.Restore op (entries f chunks))) refl refl
          (restore_follows f laws g.site g.packet (place g) own_at op chunks (chunks_good f laws g chunks e));
      get = λ op filter w. new_leads (Msg.Get op filter) (ShareMsg.Get op filter) refl
          (get_follows f laws g.site g.packet (place g) own_at op filter w at.records);
      get_all = λ op is may. unseen_leads (Msg.GetAll op) own_at.table.standby refl (get_all_keeps f g.site g.packet (place g) own_at op) same_keep is;
      standby = λ op chunks e is may. unseen_leads (Msg.Standby op chunks) (newest_of f own_at.table.standby (records_of f chunks)) refl
          (standby_keeps f g.site g.packet (place g) own_at op chunks (chunks_good f laws g chunks e))
          (chunks_may_keep f g x.world (came_by f g x.log) are.every (suc (suc j)) own_at.table.standby at.standby_is chunks (may op chunks refl)) is;
      put_all = λ op chunk is may.
          unseen_leads (Msg.PutAll op chunk) own_at.table.standby refl (put_all_keeps f g.site g.packet (place g) own_at op chunk) same_keep is;
      sync = λ home op chunks e. new_leads (Msg.Sync home op chunks) (ShareMsg.Sync op home (entries f chunks)) refl
          (sync_follows f laws g.site g.packet (place g) own_at home op chunks (chunks_good f laws g chunks e));
    }

    pub each_leads : (m : Msg) → IsTakenHere m → MayStand m → Now m
    each_leads m is = by_message f g (λ y. IsTakenHere y → MayStand y → Now y) p j all_rows m is.label is

module _ {F R : Type 0} (f : Semantics R) (laws : FunctionLaws f) (g : Given) (fitting : (number : ℕ) → Fits g.site (g.packet number)) where
  -- of a copy's chunks it is wanted that they may stand by
  pub instance_leads : (n : ℕ) (x : Scene F f g) (p : ℕ) (m : Msg) → (k : ℕ) → 2 ≤ k → AreShown f g n x → IsTaken f g n x
      (record { node = k; port = p; message = m }) → ((op : ℕ) (chunks : List Chunk) → m ≡ Msg.Standby op chunks → MayStandBy f g x.world chunks)
      → Leads f g n x (record { node = k; port = p; message = m }) (node_step f (node_of x.nodes k) p m)
  instance_leads n x p m zero two are is may = absurd (omega (arith, two))
  instance_leads n x p m (suc zero) two are is may = absurd (omega (arith, two))
  instance_leads n x p m (suc (suc j)) two are is may = each_leads f laws g fitting n x p j are (are.instances (suc (suc j)) two is.receiver) two m is may
