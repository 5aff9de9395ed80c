-- The rows of a member: what an instance with the share's rule alone does with each message of strong sharing.
use Rattle.strong_share.proofs.Words.{◌≡◌, ℕ, Bool, true, false, Option, Some, None, List, [], ◌∷◌, ◌++◌, refl, sym, ap, subst, ◌∙◌, if◌then◌else◌, not}
use Rattle.strong_share.proofs.Words.{matches, flow_of, Chunk, Laws, Semantics, unit_at, kept_after, output_for, record_chunk, TableView, same_unit, part}
use Rattle.strong_share.proofs.Words.{same_unit_equiv, FullCell, Msg, Carry, Event, Shared, Sync, Synced, Credit, Note, Processed, InstanceState, Step}
use Rattle.strong_share.proofs.Words.{tell_step, instance_step, keep_note, the_share, StrongJob}
use Rattle.std.specs.Prelude.{option_map}
use Rattle.std.specs.List.{IsDistinct}
use Rattle.std.proofs.lemmas.List.Elements.{All-from_recursion}
use Rattle.std.specs.FinMap as finite
use Rattle.nf_function.specs.declared.unit.Unit as units
use Rattle.nf_function.specs.UnitOrder.{units_total}
use Rattle.record_table.specs.Table.{Records, with_part, after_packet, either, replaced_by}
use Rattle.record_table.specs.Chunks.{records_of, AreMadeOf}
use Rattle.record_table.proofs.RecordLookUps.{get-joined, get-after_packet}
use Rattle.record_table.proofs.MadeChunks.{made_read}
use Rattle.event_filter.specs.declared.action.Action.TheVariants.{Drop}
use Rattle.event_filter.specs.declared.mark.Mark.TheVariants as mark
use Rattle.nf_msgs.specs.Nodes.{switch_node, controller_node}
use Rattle.instance_worker.specs.Instance.{still, tells_and_notes, to_controller, chunk_told, process_step, on_carry, on_sync, with_records}

part_put : {R : Type 0} (t : TableView R) (b : Bool) (records : Records R) → part (with_part t b records) b ≡ records
part_put t true records = refl
part_put t false records = refl

part_left : {R : Type 0} (t : TableView R) (b : Bool) (records : Records R) → part (with_part t b records) (not b) ≡ part t (not b)
part_left t true records = refl
part_left t false records = refl

coming : {R : Type 0} (held : Option R) (b : Bool) (r : R) → either (λ h c. c) held (if b then Some r else None) ≡ (if b then Some r else held)
coming None true r = refl
coming None false r = refl
coming (Some h) true r = refl
coming (Some h) false r = refl

-- a member: it has the share's rule alone
pub record IsMember {F R : Type 0} (job : StrongJob) (k : ℕ) (i : InstanceState F R) : Type 0 where
  pub rules : i.rules ≡ record { op = the_share; filter = job.filter; action = Drop; held = [] } ∷ []
  pub site : i.site ≡ job.site
  pub index : i.index ≡ k

module _ {F R : Type 0} (f : Semantics R) (job : StrongJob) where
  -- a packet that the rule takes is raised
  pub raises : (k : ℕ) (i : InstanceState F R) (c : FullCell) → IsMember job k i → matches job.filter (flow_of job.site c.packet).0 ≡ true
      → instance_step f i (Carry mark.Plain c) ≡ tell_step i (Event the_share c)
  unfolding on_carry
  raises k i c ok on = let rules = ok.rules in let site = ok.site in rw (rules, site, on) refl

  -- another one is processed
  pub processes : (k : ℕ) (i : InstanceState F R) (c : FullCell) → IsMember job k i → matches job.filter (flow_of job.site c.packet).0 ≡ false
      → instance_step f i (Carry mark.Plain c) ≡ process_step f i mark.Plain c
  unfolding on_carry
  processes k i c ok off = let rules = ok.rules in let site = ok.site in rw (rules, site, off) refl

  -- and so is one that the controller serves
  pub serves : (i : InstanceState F R) (home : Bool) (c : FullCell) → instance_step f i (Carry (mark.Shared the_share home) c)
      ≡ process_step f i (mark.Shared the_share home) c
  unfolding on_carry
  serves i home c = refl

  -- What a packet that is processed leaves: its record in that part of the table, and what is sent and noted.
  pub record Leaves (i : InstanceState F R) (live : Bool) (c : FullCell) (told_more : List (ℕ × Msg)) (did : Step F R) : Type 0 where
    pub rules : did.node.rules ≡ i.rules
    pub site : did.node.site ≡ i.site
    pub index : did.node.index ≡ i.index
    pub ended : did.node.ended ≡ i.ended
    pub own : (u : units.Unit) → finite.get (part did.node.table live) u
        ≡ (if same_unit u (unit_at f.kind i.site c.packet) then kept_after f i.site (finite.get (part i.table live) u) c.packet else finite.get
        (part i.table live) u)
    pub other : part did.node.table (not live) ≡ part i.table (not live)
    pub sends : did.sends ≡ told_more ++ (switch_node, Credit c) ∷ []
    pub notes : did.notes ≡ Processed c.packet.number i.index (output_for f i.site (finite.get (part i.table live) (unit_at f.kind i.site c.packet)) c.packet) ∷
        []

  pub plain_leaves : (i : InstanceState F R) (c : FullCell) → Leaves i true c [] (process_step f i mark.Plain c)
  unfolding process_step
  plain_leaves i c = record {
    rules = refl;
    site = refl;
    index = refl;
    ended = refl;
    own = λ u. get-after_packet f i.site i.table.live c.packet u;
    other = refl;
    sends = refl;
    notes = refl;
  }

  pub shared_leaves : (i : InstanceState F R) (home : Bool) (c : FullCell) (r : R)
      → kept_after f i.site (finite.get (part i.table home) (unit_at f.kind i.site c.packet)) c.packet ≡ Some r
      → Leaves i home c ((controller_node, Shared the_share (record_chunk f (unit_at f.kind i.site c.packet) r)) ∷ [])
      (process_step f i (mark.Shared the_share home) c)
  unfolding process_step
  shared_leaves i home c r is =
      let u = unit_at f.kind i.site c.packet in
      let records = after_packet f i.site (part i.table home) c.packet in
      let found : finite.get (part (with_part i.table home records) home) u ≡ Some r =
      ap (λ t. finite.get t u) (part_put i.table home records) ∙ get-after_packet f i.site (part i.table home) c.packet u
      ∙ ap (λ b. if b then kept_after f i.site (finite.get (part i.table home) u) c.packet else finite.get (part i.table home) u) (same_unit_equiv.refl u)
      ∙ is in
      record {
        rules = refl;
        site = refl;
        index = refl;
        ended = refl;
        own = λ v. ap (λ t. finite.get t v) (part_put i.table home records) ∙ get-after_packet f i.site (part i.table home) c.packet v;
        other = part_left i.table home records;
        sends = ap (λ o. to_controller (chunk_told the_share (option_map (record_chunk f u) o)) ++ (switch_node, Credit c) ∷ []) found;
        notes = refl;
      }

  -- What a Sync leaves.
  pub record TakesRecord (i : InstanceState F R) (home : Bool) (u : units.Unit) (r : R) (did : Step F R) : Type 0 where
    pub rules : did.node.rules ≡ i.rules
    pub site : did.node.site ≡ i.site
    pub index : did.node.index ≡ i.index
    pub ended : did.node.ended ≡ i.ended
    pub own : (v : units.Unit) → finite.get (part did.node.table home) v ≡ (if same_unit v u then Some r else finite.get (part i.table home) v)
    pub other : part did.node.table (not home) ≡ part i.table (not home)
    pub sends : did.sends ≡ (controller_node, Synced the_share) ∷ []
    pub note : Note
    pub notes : did.notes ≡ note ∷ []
    pub quiet : note ≡ keep_note i the_share (record_chunk f u r ∷ [])

  pub sync_leaves : Laws f → (i : InstanceState F R) (home : Bool) (u : units.Unit) (r : R) → f.is_valid u r ≡ true
      → TakesRecord i home u r (instance_step f i (Sync home the_share (record_chunk f u r ∷ [])))
  unfolding on_sync IsDistinct
  sync_leaves laws i home u r valid =
      let chunks : List Chunk = record_chunk f u r ∷ [] in
      let made : AreMadeOf f chunks ((u, r) ∷ []) =
      record { valid = All-from_recursion (λ (e : units.Unit × R). f.is_valid e.0 e.1 ≡ true) ((u, r) ∷ []) (valid, tt); distinct = (tt, tt); made = refl }
      in
      let read = made_read f laws chunks ((u, r) ∷ []) made in
      let good = read.good in
      let records = replaced_by (part i.table home) (records_of f chunks) in
      let step : Step F R = tells_and_notes (with_records f i home chunks) (Synced the_share) (keep_note i the_share chunks) in
      subst (TakesRecord i home u r) (sym (ap (λ b. if b then step else still i) good)) (record {
        rules = refl;
        site = refl;
        index = refl;
        ended = refl;
        own = λ v.
            ap (λ t. finite.get t v) (part_put i.table home records)
            ∙ get-joined (λ h c. c) (part i.table home) (records_of f chunks) v
            ∙ ap (λ t. either (λ h c. c) (finite.get (part i.table home) v) (finite.get t v)) read.spells
            ∙ ap (either (λ h c. c) (finite.get (part i.table home) v)) (finite.get-from_entries units_total ((u, r) ∷ []) v)
            ∙ coming (finite.get (part i.table home) v) (same_unit v u) r;
        other = part_left i.table home records;
        sends = refl;
        note = keep_note i the_share chunks;
        notes = refl;
        quiet = refl;
      })
