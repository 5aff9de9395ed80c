-- The outline of an instance's step on a message of a share is the step of a member of the abstract network.
use Rattle.proof_outlines.proofs.Words.{◌≡◌, ℕ, Bool, true, false, Option, Some, None, List, [], ◌∷◌, ◌++◌, refl, ap, ◌∙◌, option_map, option_map_or}
use Rattle.proof_outlines.proofs.Words.{filter_map, Filter, Packet, Site, Chunk, takes, Semantics, is_sound, unit_at, record_chunk, Records, AreSound, part}
use Rattle.proof_outlines.proofs.Words.{after_packet, taken_by, are_good, sound_retain_keys, valid_entries, spelled-record_chunk, FullCell, switch_node}
use Rattle.proof_outlines.proofs.Words.{controller_node, Instance, to_controller, chunk_told, process, New, ShareMsg, MemberTurn, member_step, shared_chunk}
use Rattle.proof_outlines.proofs.Words.{Shared_on, Unit, Mark, Msg, FunctionLaws, records_of}
use Rattle.std.specs.FinMap as finite
use Rattle.record_table.specs.Chunks.{chunks_of}
use Rattle.instance_worker.specs.Instance.{Step, process_step, on_carry, on_get, on_sync}
use Rattle.proof_outlines.proofs.outline.FiltersApart.{is_whole, takes_whole}
use Rattle.proof_outlines.proofs.outline.Outline.{number, entries, ran_in, sys, outline_instance}
use Rattle.proof_outlines.proofs.outline.InstanceOutline.{IsGenuine, IsInstance, after_same}
use Rattle.proof_outlines.proofs.outline.StateOutline.{entries_made, HasRecords, all_each, taken_same}
use Rattle.proof_outlines.proofs.whole.WholeOutline.{outline_all, sharing}

module _ {F R : Type 0} (f : Semantics R) (site : Site) (packet : ℕ → Packet) (place : List ℕ → Option ℕ) where
  -- what an instance's step does on a message of a share: to both its tables, with what it sends and which packets it processes
  pub record MemberFollows (i : Instance F R) (step : Step F R) (did : MemberTurn (sys f site packet) (sharing f site packet)) : Type 0 where
    pub node : outline_instance f site packet step.node ≡ record (outline_instance f site packet i) { live = did.live }
    pub standby : step.node.table.standby ≡ did.standby
    pub sends : outline_all f place step.sends ≡ did.sends
    pub ran : filter_map ran_in step.notes ≡ did.ran

module _ {R : Type 0} (f : Semantics R) (laws : FunctionLaws f) where
  -- the chunk of a record that a packet left; that the packet's cell goes back isn't seen
  chunk_sent : (place : List ℕ → Option ℕ) (op : ℕ) (cell : FullCell) (u : Unit) (o : Option R) → is_sound f u o ≡ true
      → outline_all f place (to_controller (chunk_told op (option_map (record_chunk f u) o)) ++ (switch_node, Msg.Credit cell) ∷ [])
      ≡ option_map_or (λ r. (controller_node, New (ShareMsg.Shared op (u, r))) ∷ []) o []
  chunk_sent place op cell u None sound = refl
  chunk_sent place op cell u (Some r) sound = let spells = spelled-record_chunk f laws u r sound in rw spells refl

  -- the chunks of a filter's records
  chunks_spell : (g : Filter) (live : Records R) → is_whole f.kind g ≡ true → HasRecords f live
      → entries f (chunks_of f (taken_by g live)) ≡ finite.entries (finite.retain_keys live (takes_whole f.kind g))
  chunks_spell g live whole h =
      let es = finite.entries (taken_by g live) in
      entries_made f laws es (all_each (λ e. f.is_valid e.0 e.1 ≡ true) es (valid_entries f (taken_by g live) (sound_retain_keys f live (takes g) h.sound)))
      ∙ ap finite.entries (taken_same f g live whole h)

module _ {F R : Type 0} (f : Semantics R) (laws : FunctionLaws f) (site : Site) (packet : ℕ → Packet) (place : List ℕ → Option ℕ) where
  abbrev Member : Instance F R → Step F R → ShareMsg R → Type 0
  Member i step m = MemberFollows f site packet place i step (member_step (sys f site packet) (sharing f site packet) i.table.live i.table.standby m)

  -- what is told of a packet's unit: its record in these records, which the packet has stepped
  told_after : (i : Instance F R) (op : ℕ) (cell : FullCell) (t : Records R) → IsInstance f site packet place i
      → IsGenuine site packet cell → AreSound f (after_packet f i.site t cell.packet)
      → outline_all f place (to_controller (chunk_told op (option_map (record_chunk f (unit_at f.kind i.site cell.packet))
      (finite.get (after_packet f i.site t cell.packet) (unit_at f.kind i.site cell.packet)))) ++ (switch_node, Msg.Credit cell) ∷ [])
      ≡ shared_chunk (sys f site packet) (sharing f site packet) op (number cell) (process (sys f site packet) t (number cell))
  told_after i op cell t ok g sound =
      let u = unit_at f.kind i.site cell.packet in
      let after = after_packet f i.site t cell.packet in
      let unit_is : u ≡ unit_at f.kind site (packet (number cell)) = ap (λ s. unit_at f.kind s cell.packet) ok.at ∙ ap (unit_at f.kind site) g.same in
      chunk_sent f laws place op cell u (finite.get after u) (sound u)
      ∙ ap (λ v. option_map_or (λ r. (controller_node, New (ShareMsg.Shared op (v, r))) ∷ []) (finite.get after v) []) unit_is
      ∙ ap (shared_chunk (sys f site packet) (sharing f site packet) op (number cell)) (after_same f site packet t i.site cell ok.at g)

  -- A packet of a share: no event rule takes it.
  pub shared_follows : (i : Instance F R) (op : ℕ) (home : Bool) (cell : FullCell) → IsInstance f site packet place i
      → IsGenuine site packet cell → AreSound f (after_packet f i.site (part i.table home) cell.packet)
      → Member i (on_carry f i (Mark.Shared op home) cell) (Shared_on op home (number cell))
  unfolding on_carry process_step
  shared_follows i op true cell ok g sound = record {
    node = ap (λ live. record (outline_instance f site packet i) { live = live }) (after_same f site packet i.table.live i.site cell ok.at g);
    standby = refl;
    sends = told_after i op cell i.table.live ok g sound;
    ran = refl;
  }
  shared_follows i op false cell ok g sound = record {
    node = refl;
    standby = after_same f site packet i.table.standby i.site cell ok.at g;
    sends = told_after i op cell i.table.standby ok g sound;
    ran = refl;
  }

  pub get_follows : (i : Instance F R) (op : ℕ) (g : Filter) → is_whole f.kind g ≡ true → HasRecords f i.table.live
      → Member i (on_get f i op g) (ShareMsg.Get op g)
  unfolding on_get
  get_follows i op g whole h = record {
    node = refl;
    standby = refl;
    sends = ap (λ es. (controller_node, New (ShareMsg.Chunks op es)) ∷ []) (chunks_spell f laws g i.table.live whole h);
    ran = refl;
  }

  pub sync_follows : (i : Instance F R) (home : Bool) (op : ℕ) (chunks : List Chunk) → are_good f chunks ≡ true
      → Member i (on_sync f i home op chunks) (ShareMsg.Sync op home (entries f chunks))
  unfolding on_sync records_of
  sync_follows i true op chunks good = rw good (record { node = refl; standby = refl; sends = refl; ran = refl })
  sync_follows i false op chunks good = rw good (record { node = refl; standby = refl; sends = refl; ran = refl })
