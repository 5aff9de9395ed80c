-- The switch and the instances lose no message that an operation waits for: each goes on, as another one of its leg.
use Rattle.nf_net.proofs.Words.{◌≡◌, ℕ, suc, ◌+◌, ◌<◌, inl, inr, Bool, true, false, cond, Option, Some, None, List, [], ◌∷◌, ◌++◌, refl, sym, ap, ◌∙◌, subst}
use Rattle.nf_net.proofs.Words.{arith, if◌then◌else◌, ◌&&◌, nat_lt, is_some, option_map, nat_tests, Decides-ltb, Packet, Site, Chunk, units_total, Fits}
use Rattle.nf_net.proofs.Words.{FunctionLaws, Semantics, kept_after, unit_at, record_chunk, tally_read, Records, after_packet, same_unit_equiv, FullCell}
use Rattle.nf_net.proofs.Words.{rules_redirected, Msg, instance_node, reaches, to_controller, chunk_told, tells_and_notes, where_good, with_standby}
use Rattle.nf_net.proofs.Words.{with_records, keep_note, instance_step, tally_put, SwitchState, switch_step, sends_to_instance, on_install, Given}
use Rattle.nf_net.proofs.Words.{AreGoodChunks, Label, chunks_good, Unit, Mark, Target, Note}
use Rattle.std.specs.Prelude.{Ok}
use Rattle.std.specs.FinMap as finite
use Rattle.record_table.specs.Table.{with_kept}
use Rattle.event_filter.specs.Rules as rules
use Rattle.instance_worker.specs.declared.instance.Instance.{Instance}
use Rattle.instance_worker.specs.Instance.{Step, still, all_processed, on_carry, on_fence, on_get, on_standby, on_sync, on_put_all, process_step}
use Rattle.switch_node.specs.Switch as switches
use Rattle.proof_outlines.proofs.joined.Joined.{count}
use Rattle.nf_net.proofs.ends.Tokens.{Serves, Fences, Token, token, token_of, at_instance, at_member, Goes, Passes}

-- what a packet leaves of its unit
kept_some : {R : Type 0} (f : Semantics R) (site : Site) (t : Records R) (p : Packet) → Fits site p
    → is_some (finite.get (after_packet f site t p) (unit_at f.kind site p)) ≡ true
kept_some f site t p fits =
    let u = unit_at f.kind site p in
    let x = (f.stepped site (finite.get t u) p).kept in
    let kept_is : kept_after f site (finite.get t u) p ≡ Some x = ap (λ b. if b then Some x else finite.get t u) fits.transport in
    ap (λ o. is_some (finite.get (with_kept t u o) u)) kept_is
    ∙ ap is_some (finite.get-insert units_total t u x u ∙ ap (λ b. cond b (Some x) (finite.get t u)) (same_unit_equiv.refl u))

-- An instance, at node i + 2
abbrev node : ℕ → ℕ
node i = suc (suc i)

module _ (n i : ℕ) (less : suc (suc i) < n) where
  reach : reaches n (node i) 1 ≡ true
  reach = grind (arith, nat_tests, less)

  -- one answer
  one_goes : (o : Option Token) (m : Msg) → token_of (node i) 1 m ≡ o → Goes o n (node i) ((1, m) ∷ [])
  one_goes o m same = record { before = []; to = 1; message = m; after = []; whole = refl; reach = reach; same = same }

  chunk_goes : {R : Type 0} (f : Semantics R) (op : ℕ) (u : Unit) (cell : FullCell) (o : Option R) → is_some o ≡ true
      → Goes (token Serves op (node i)) n (node i) (to_controller (chunk_told op (option_map (record_chunk f u) o)) ++ (0, Msg.Credit cell) ∷ [])
  chunk_goes f op u cell None some = cc
  chunk_goes f op u cell (Some r) some = record {
    before = [];
    to = 1;
    message = Msg.Shared op (record_chunk f u r);
    after = (0, Msg.Credit cell) ∷ [];
    whole = refl;
    reach = reach;
    same = refl;
  }

-- the tally of a chunk that is to be merged can be read
abbrev pub CanRead : {R : Type 0} → Semantics R → Msg → Type 0
CanRead f (Msg.PutAll op chunk) = (slots : List ℕ) × (tally_read f.kind chunk.bytes ≡ Ok slots)
CanRead f m = Prim.Unit {0}

module _ {F R : Type 0} (f : Semantics R) (laws : FunctionLaws f) (g : Given) (fitting : (number : ℕ) → Fits g.site (g.packet number)) (n i : ℕ)
    (less : suc (suc i) < n) where
  shared_goes : (x : Instance F R) (op : ℕ) (home : Bool) (cell : FullCell) → Fits x.site cell.packet
      → Goes (token Serves op (node i)) n (node i) (on_carry f x (Mark.Shared op home) cell).sends
  unfolding on_carry process_step
  shared_goes x op true cell fits = chunk_goes n i less f op (unit_at f.kind x.site cell.packet) cell
      (finite.get (after_packet f x.site x.table.live cell.packet) (unit_at f.kind x.site cell.packet)) (kept_some f x.site x.table.live cell.packet fits)
  shared_goes x op false cell fits = chunk_goes n i less f op (unit_at f.kind x.site cell.packet) cell
      (finite.get (after_packet f x.site x.table.standby cell.packet) (unit_at f.kind x.site cell.packet))
      (kept_some f x.site x.table.standby cell.packet fits)

  fence_goes : (x : Instance F R) (op : ℕ) → Goes (token Fences op (node i)) n (node i) (on_fence f x op).sends
  unfolding on_fence
  fence_goes x op = record {
    before = (all_processed f (record x { rules = rules.without_rule x.rules op }) (rules.held_at x.rules op)).sends;
    to = 1;
    message = Msg.Fenced op;
    after = [];
    whole = refl;
    reach = reach n i less;
    same = refl;
  }

  good_goes : (x : Instance F R) (chunks : List Chunk) (did : Step F R) (o : Option Token) → AreGoodChunks f g chunks → Goes o n (node i) did.sends
      → Goes o n (node i) (where_good f x chunks did).sends
  good_goes x chunks did o good h = subst (λ b. Goes o n (node i) (if b then did else still x).sends) (sym (chunks_good f laws g chunks good)) h

  get_goes : (x : Instance F R) (op : ℕ) (filter : _) → Goes (token_of 1 (node i) (Msg.Get op filter)) n (node i) (on_get f x op filter).sends
  unfolding on_get
  get_goes x op filter = one_goes n i less _ (Msg.Chunks op _) refl

  standby_goes : (x : Instance F R) (op : ℕ) (chunks : List Chunk) → AreGoodChunks f g chunks
      → Goes (token_of 1 (node i) (Msg.Standby op chunks)) n (node i) (on_standby f x op chunks).sends
  unfolding on_standby
  standby_goes x op chunks good =
      good_goes x chunks (tells_and_notes (with_standby f x chunks) (Msg.Kept op) (keep_note x op chunks)) _ good (one_goes n i less _ (Msg.Kept op) refl)

  sync_goes : (x : Instance F R) (home : Bool) (op : ℕ) (chunks : List Chunk) → AreGoodChunks f g chunks
      → Goes (token_of 1 (node i) (Msg.Sync home op chunks)) n (node i) (on_sync f x home op chunks).sends
  unfolding on_sync
  sync_goes x home op chunks good = good_goes x chunks (tells_and_notes (with_records f x home chunks) (Msg.Synced op) (keep_note x op chunks)) _ good
      (one_goes n i less _ (Msg.Synced op) refl)

  put_all_goes : (x : Instance F R) (op : ℕ) (chunk : Chunk) (slots : List ℕ) → tally_read f.kind chunk.bytes ≡ Ok slots
      → Goes (token_of 1 (node i) (Msg.PutAll op chunk)) n (node i) (on_put_all f x op chunk).sends
  unfolding on_put_all
  put_all_goes x op chunk slots reads =
      subst (λ r. Goes (token_of 1 (node i) (Msg.PutAll op chunk)) n (node i) (tally_put x op r).sends) (sym reads) (one_goes n i less _ (Msg.Kept op) refl)

  pub instance_passes : (x : Instance F R) → x.site ≡ g.site → (p : ℕ) (m : Msg) → Label f g p (node i) m → CanRead f m
      → Passes (token_of p (node i) m) n (node i) (instance_step f x m).sends
  instance_passes x at p (Msg.Carry (Mark.Shared op home) cell) label can =
      let fits : Fits x.site cell.packet = subst (λ s. Fits s cell.packet) (sym at)
      (subst (λ q. Fits g.site q) (sym label.1.same) (fitting cell.packet.number)) in
      inr (shared_goes x op home cell fits)
  instance_passes x at p (Msg.Carry Mark.Plain cell) label can = inl refl
  instance_passes x at p (Msg.Carry (Mark.Pass op) cell) label can = inl refl
  instance_passes x at p (Msg.Fence op) label can = inr (fence_goes x op)
  instance_passes x at p (Msg.Get op filter) label can = inr (get_goes x op filter)
  instance_passes x at p (Msg.GetAll op) label can = inr (one_goes n i less _ (Msg.AllChunk op _) refl)
  instance_passes x at p (Msg.Standby op chunks) label can = inr (standby_goes x op chunks label.1)
  instance_passes x at p (Msg.Sync home op chunks) label can = inr (sync_goes x home op chunks label.1)
  instance_passes x at p (Msg.PutAll op chunk) label can = inr (put_all_goes x op chunk can.0 can.1)
  instance_passes x at p m label can = inl refl

-- The switch
module _ {R : Type 0} (f : Semantics R) (g : Given) (n : ℕ) (count_is : n ≡ count f g + 2) (s : SwitchState) (instances : s.instances ≡ count f g) where
  there : (i : ℕ) → nat_lt i (count f g) ≡ true → nat_lt i s.instances ≡ true
  there i h = ap (nat_lt i) instances ∙ h

  reach_instance : (i : ℕ) → nat_lt i (count f g) ≡ true → reaches n 0 (instance_node i) ≡ true
  reach_instance i h = let low = (Decides-ltb i (count f g)).0 h in grind (arith, nat_tests, low, count_is)

  install_passes : (op : ℕ) (filter : _) (from : ℕ) → nat_lt from (count f g) ≡ true
      → Passes (token_of 1 0 (Msg.Install op filter from Target.Controller)) n 0 (on_install s op filter from Target.Controller).sends
  install_passes op filter from low =
      let on : nat_lt from s.instances && true ≡ true = ap (λ b. b && true) (there from low) in
      inr (record {
        before = [];
        to = instance_node from;
        message = Msg.Fence op;
        after = [];
        whole = ap (λ b. (if b then record {
          node = record s { rules = rules_redirected (record { filter = filter; from = Target.Instance from; to = Target.Controller }) s.rules };
          sends = (instance_node from, Msg.Fence op) ∷ [];
          notes = Note.Installed op ∷ [];
        } else switches.still s).sends) on;
        reach = reach_instance from low;
        same = at_instance Fences op from;
      })

  forward_passes : (to op : ℕ) (home : Bool) (cell : FullCell) → nat_lt to (count f g) ≡ true
      → Passes (token_of 1 0 (Msg.Forward to (Mark.Shared op home) cell)) n 0 (sends_to_instance s to (Msg.Carry (Mark.Shared op home) cell)).sends
  forward_passes to op home cell low = inr (record {
    before = [];
    to = instance_node to;
    message = Msg.Carry (Mark.Shared op home) cell;
    after = [];
    whole = ap (λ b. (if b then switches.sends_on s (instance_node to) (Msg.Carry (Mark.Shared op home) cell) else switches.still s).sends) (there to low);
    reach = reach_instance to low;
    same = at_member op to home;
  })

  pub switch_passes : (p : ℕ) (m : Msg) → Label f g p 0 m → Passes (token_of p 0 m) n 0 (switch_step s m).sends
  switch_passes p (Msg.Install op filter from Target.Controller) label =
      subst (λ q. Passes (token_of q 0 (Msg.Install op filter from Target.Controller)) n 0 (on_install s op filter from Target.Controller).sends)
      (sym label.0.0) (install_passes op filter from label.1)
  switch_passes p (Msg.Install op filter from (Target.Instance to)) label =
      subst (λ q. Passes (token_of q 0 (Msg.Install op filter from (Target.Instance to))) n 0 (on_install s op filter from (Target.Instance to)).sends)
      (sym label.0.0) (inl refl)
  switch_passes p (Msg.Forward to (Mark.Shared op home) cell) label = subst (λ q. Passes (token_of q 0 (Msg.Forward to (Mark.Shared op home) cell)) n 0
      (sends_to_instance s to (Msg.Carry (Mark.Shared op home) cell)).sends) (sym label.0.0) (forward_passes to op home cell label.1)
  switch_passes p (Msg.Forward to Mark.Plain cell) label =
      subst (λ q. Passes (token_of q 0 (Msg.Forward to Mark.Plain cell)) n 0 (sends_to_instance s to (Msg.Carry Mark.Plain cell)).sends) (sym label.0.0)
      (inl refl)
  switch_passes p (Msg.Forward to (Mark.Pass op) cell) label =
      subst (λ q. Passes (token_of q 0 (Msg.Forward to (Mark.Pass op) cell)) n 0 (sends_to_instance s to (Msg.Carry (Mark.Pass op) cell)).sends)
      (sym label.0.0) (inl refl)
  switch_passes p m label = inl refl
