-- What a step of an instance notes as processed is answered as by one instance with its records; other nodes note none.
use Rattle.nf_net.proofs.Words.{◌≡◌, ℕ, false, Option, List, [], ◌∷◌, append-nil, refl, sym, ◌∙◌, subst, uninstalled_unprocessed, switch_unprocessed}
use Rattle.nf_net.proofs.Words.{controller_uninstalled, Semantics, part, after_packet, Decide, Mark, FullCell, Msg, is_live, carry_step, instance_step}
use Rattle.nf_net.proofs.Words.{SwitchState, switch_step, ControllerState, controller_step, Each, Config, packet_numbered, dones_in, IsGenuine, may_process}
use Rattle.nf_net.proofs.Words.{instance_fits, Unit, flow_of}
use Rattle.std.specs.FinMap as finite
use Rattle.proof_outlines.proofs.joined.PlaceNotes.{none_done}
use Rattle.event_filter.specs.Rules as rules
use Rattle.instance_worker.specs.declared.instance.Instance.{Instance}
use Rattle.instance_worker.specs.Instance.{process_step, all_processed, on_carry, on_fence}
use Rattle.nf_net.proofs.OutputLemmas.{Answered, answered_nothing, answered_packet}

-- the live record of each unit
abbrev pub live_of : {F R : Type 0} → Instance F R → Unit → Option R
live_of i u = finite.get i.table.live u

-- the record of each unit in the part of the table that a packet with this mark steps
abbrev pub kept_of : {F R : Type 0} → Instance F R → Mark → Unit → Option R
kept_of i m u = finite.get (part i.table (is_live m)) u

abbrev GenuineCell : Config → List Msg → FullCell → Type 0
GenuineCell c items = IsGenuine c.site (packet_numbered items)

module _ {F R : Type 0} (f : Semantics R) (c : Config) (items : List Msg) where
  pub all_answered : (i : Instance F R) (cells : List FullCell) → i.site ≡ c.site → Each (GenuineCell c items) cells
      → Answered f c items (live_of i) (dones_in (all_processed f i cells).notes)
  unfolding process_step all_processed
  all_answered i [] at h = answered_nothing f c items (live_of i)
  all_answered i (cell ∷ cells) at h =
      let next = (process_step f i Mark.Plain cell).node in
      answered_packet f c items i.table.live i.site cell at h.0 i.index (dones_in (all_processed f next cells).notes) (all_answered next cells at h.1)

  one_answered : (i : Instance F R) (m : Mark) (cell : FullCell) → i.site ≡ c.site → GenuineCell c items cell
      → Answered f c items (kept_of i m) (dones_in (process_step f i m cell).notes)
  unfolding process_step
  one_answered i m cell at g = answered_packet f c items (part i.table (is_live m)) i.site cell at g i.index []
      (answered_nothing f c items (λ u. finite.get (after_packet f i.site (part i.table (is_live m)) cell.packet) u))

  carried_answered : (i : Instance F R) (m : Mark) (cell : FullCell) (d : Decide) → i.site ≡ c.site → GenuineCell c items cell
      → Answered f c items (kept_of i m) (dones_in (carry_step f i m cell d).notes)
  carried_answered i m cell Decide.Process at g = one_answered i m cell at g
  carried_answered i m cell (Decide.ProcessAndEvent op) at g =
      subst (λ ns. Answered f c items (kept_of i m) (dones_in ns)) (sym (append-nil (process_step f i m cell).notes)) (one_answered i m cell at g)
  carried_answered i m cell (Decide.Event op) at g = answered_nothing f c items (kept_of i m)
  carried_answered i m cell (Decide.Buffer op) at g = answered_nothing f c items (kept_of i m)

  pub carry_answered : (i : Instance F R) (m : Mark) (cell : FullCell) → i.site ≡ c.site → GenuineCell c items cell
      → Answered f c items (kept_of i m) (dones_in (on_carry f i m cell).notes)
  unfolding on_carry
  carry_answered i m cell at g = carried_answered i m cell (rules.decide i.rules (flow_of i.site cell.packet).0 m) at g

  pub fence_answered : (i : Instance F R) (op : ℕ) → i.site ≡ c.site → Each (GenuineCell c items) (rules.held_at i.rules op)
      → Answered f c items (live_of i) (dones_in (on_fence f i op).notes)
  unfolding on_fence
  fence_answered i op at h =
      let without = record i { rules = rules.without_rule i.rules op } in
      let all = all_processed f without (rules.held_at i.rules op) in
      subst (λ ns. Answered f c items (live_of i) (dones_in ns)) (sym (append-nil all.notes)) (all_answered without (rules.held_at i.rules op) at h)

-- Steps that note nothing processed.
-- an instance notes packets where one comes, and at a fence
pub instance_none : {F R : Type 0} (f : Semantics R) (i : Instance F R) (m : Msg) → may_process m ≡ false → dones_in (instance_step f i m).notes ≡ []
instance_none f = instance_fits f (λ _ m did. may_process m ≡ false → dones_in did.notes ≡ []) (record {
  still = λ i m e. refl;
  held = λ i mk cell op e. cc;
  processed = λ i mk cell e. cc;
  released = λ i op cell e. cc;
  both = λ i m did next w a b e. (let never = sym w ∙ e in cc);
  unruled = λ i op did a e. cc;
  seen = λ i mk cell op e. cc;
  event = λ i mk cell op e. cc;
  fenced = λ i op e. cc;
  stopped = λ i e. refl;
  enabled = λ i op filter action e. refl;
  given = λ i op filter e. refl;
  streamed = λ i op filter e. refl;
  all_given = λ i op e. refl;
  deleted = λ i op gone e. refl;
  refused = λ i op piece first why is e. refl;
  taken = λ i op piece first is e. refl;
  restored = λ i op chunks e. refl;
  stood_by = λ i op chunks e. refl;
  synced = λ i home op chunks e. refl;
  merged = λ i op chunk slots is e. refl;
})

-- The switch and the controller note nothing processed.
pub switch_none : (s : SwitchState) (m : Msg) → dones_in (switch_step s m).notes ≡ []
switch_none s m = none_done _ (switch_unprocessed s m)

pub controller_none : (s : ControllerState) (port : ℕ) (m : Msg) → dones_in (controller_step s port m).notes ≡ []
controller_none s port m = none_done _ (uninstalled_unprocessed _ (controller_uninstalled s port m))
