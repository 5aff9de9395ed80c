-- The outline of an open share: what it does with a message, and then serves, is the row of the abstract network.
use Rattle.proof_outlines.proofs.Words.{◌≡◌, ℕ, zero, suc, ◌<◌, ◌+◌, Option, Some, None, List, [], ◌∷◌, ◌++◌, map, length, refl, sym, ap, ◌∙◌, arith}
use Rattle.proof_outlines.proofs.Words.{if◌then◌else◌, ◌==◌, ◌%◌, not, slice_index, unwrap_or, mod_below, length-map, map-append, nat_tests, Flow, Packet, Site}
use Rattle.proof_outlines.proofs.Words.{flow_of, Chunk, Chunks, Semantics, spelled, FullCell, Msg, instance_node, SharePhase, SharePlan, ShareState, ShareRow}
use Rattle.proof_outlines.proofs.Words.{Served, home, others, member_of, service_if_idle, Each, each-append, without_number, Sys, New, ShareMsg, Sharing}
use Rattle.proof_outlines.proofs.Words.{OpenShare, Told, Is_fenced, Has_chunks, Has_chunk, Is_synced, Has_packet, ShareTurn, share_row, Unit, cond, Bool, true}
use Rattle.proof_outlines.proofs.Words.{false}
use Rattle.std.specs.Prelude.{filter}
use Rattle.copy_share.specs.Share.{next_phase, row, words}
use Rattle.copy_share.specs.Share as shares
use Rattle.copy_share.specs.ShareTable as table
use Rattle.copy_share.specs.ShareTable.{Words}
use Rattle.proof_machines.proofs.share.TableViews.{map_phase, Follow, fenced_follows, chunks_follows, shared_follows, synced_follows, Serve, service_follows}
use Rattle.proof_machines.proofs.net.Shares.{syncs, s_goes, s_serves, share_words}
use Rattle.proof_outlines.proofs.outline.Outline.{number, entries, sys}
use Rattle.proof_outlines.proofs.outline.InstanceOutline.{IsGenuine, filter_map-put}
use Rattle.proof_outlines.proofs.whole.WholeOutline.{outline_each, outline_all, member_for, sharing}

abbrev pub outline_share : ShareState → List FullCell → OpenShare
outline_share s cells = record {
  num = s.plan.op;
  home = instance_node (home s.plan);
  members = map instance_node s.plan.members;
  filter = s.plan.filter;
  phase = map_phase instance_node s.phase;
  queue = map number cells;
}

-- no packet waits where none is out
abbrev pub Rests : SharePhase → List FullCell → Type 0
Rests SharePhase.Idle (cell ∷ cells) = ⊥
Rests ph cells = Prim.Unit {0}

-- an open share of a network at a site, as the proof of shares sees it
pub record SeesShare (at : Site) (e : OpenShare) (s : ShareState) (cells : List FullCell) : Type 0 where
  pub is : e ≡ outline_share s cells
  pub site : s.plan.site ≡ at
  pub some : 0 < length s.plan.members
  pub rests : Rests s.phase cells

-- two instances are one where their nodes are
pub same_node : (a b : ℕ) → (instance_node a == instance_node b) ≡ (a == b)
same_node a b = grind (arith, nat_tests)

-- the members but for one
others_same : (one : ℕ) (ms : List ℕ)
    → without_number (map instance_node ms) (instance_node one) ≡ map instance_node (filter (λ member. not (member == one)) ms)
others_same one [] = refl
others_same one (m ∷ ms) =
    let rest = filter (λ member. not (member == one)) ms in
    rw (same_node m one, others_same one ms) (elim (m == one)
    as (λ b. cond (not b) (instance_node m ∷ map instance_node rest) (map instance_node rest) ≡ map instance_node (cond (not b) (m ∷ rest) rest))
    [ true ↦ refl | false ↦ refl ])

count_same : (plan : SharePlan) (one : ℕ) → length (without_number (map instance_node plan.members) (instance_node one)) ≡ length (others plan one)
count_same plan one = ap length (others_same one plan.members) ∙ length-map (others plan one) instance_node

pub index_same : (ms : List ℕ) (i : ℕ) → i < length ms → slice_index (map instance_node ms) i ≡ instance_node (slice_index ms i)
index_same [] i low = absurd (omega (arith, low))
index_same (m ∷ ms) zero low = refl
index_same (m ∷ ms) (suc i) low = index_same ms i (omega (arith, low))

-- the member that a packet goes to
pub member_same : {R : Type 0} (f : Semantics R) (at : Site) (packet : ℕ → Packet) (plan : SharePlan) (cell : FullCell)
    → plan.site ≡ at → 0 < length plan.members → IsGenuine at packet cell
    → (sharing f at packet).member (map instance_node plan.members) (number cell) ≡ instance_node (member_of plan cell)
member_same f at packet plan cell is some genuine =
    let by_flow : Flow → ℕ = λ flow. member_for (map instance_node plan.members) flow in
    let own = (flow_of plan.site cell.packet).0 in
    let flow : (flow_of at (packet (number cell))).0 ≡ own = ap (λ p. (flow_of at p).0) (sym genuine.same) ∙ ap (λ s. (flow_of s cell.packet).0) (sym is) in
    ap by_flow flow
    ∙ ap (λ n. slice_index (map instance_node plan.members) ((own.lport + own.rport + own.remote) % n)) (length-map plan.members instance_node)
    ∙ index_same plan.members ((own.lport + own.rport + own.remote) % length plan.members)
    (mod_below (own.lport + own.rport + own.remote) (length plan.members) some)

module _ {R : Type 0} (f : Semantics R) (at : Site) (packet : ℕ → Packet) (place : List ℕ → Option ℕ) where
  abbrev S : Sys R
  S = sys f at packet

  abbrev A : Sharing S
  A = sharing f at packet

  -- what a share does with a message, before it serves
  pub record RowIs (cells : List FullCell) (r : ShareRow) (did : ShareTurn R) : Type 0 where
    pub phase : did.phase ≡ map_phase instance_node r.phase
    pub queue : did.queue ≡ map number cells
    pub sends : did.sends ≡ outline_all f place r.sends

  -- A share's row and what it then serves.
  pub record ShareFollows (plan : SharePlan) (cells : List FullCell) (r : ShareRow) (did : ShareTurn R) : Type 0 where
    pub phase : did.phase ≡ map_phase instance_node (service_if_idle plan r.phase cells).phase
    pub queue : did.queue ≡ map number (unwrap_or (service_if_idle plan r.phase cells).stored cells)
    pub sends : outline_all f place (r.sends ++ (service_if_idle plan r.phase cells).sends) ≡ did.sends

  all-put : (xs ys : List (ℕ × Msg)) → outline_all f place (xs ++ ys) ≡ outline_all f place xs ++ outline_all f place ys
  all-put xs ys = filter_map-put (outline_each f place) xs ys

  -- the chunks go to each of these
  syncs_each : (plan : SharePlan) (chunks : List Chunk) (ms : List ℕ)
      → map (λ m. (m, New (ShareMsg.Sync plan.op (m == instance_node (home plan)) (entries f chunks)))) (map instance_node ms)
      ≡ outline_all f place (map (λ member. (instance_node member, Msg.Sync (member == home plan) plan.op chunks)) ms)
  syncs_each plan chunks [] = refl
  syncs_each plan chunks (m ∷ ms) = rw (syncs_each plan chunks ms, same_node m (home plan)) refl

  syncs_same : (plan : SharePlan) (one : ℕ) (chunks : List Chunk)
      → syncs plan.op (instance_node (home plan)) (instance_node one) (entries f chunks) (map instance_node plan.members)
      ≡ outline_all f place (shares.syncs plan one chunks)
  syncs_same plan one chunks = rw (others_same one plan.members) (syncs_each plan chunks (others plan one))

  -- A share with these packets, which the network knows, at the end of its queue or not.
  module _ (s : ShareState) (before cells : List FullCell) (is : s.plan.site ≡ at) (some : 0 < length s.plan.members)
      (genuine : Each (IsGenuine at packet) cells) where
    abbrev e : OpenShare
    e = outline_share s before

    abbrev seen_words : Words ℕ (Chunks R) (ShareTurn R) (ShareTurn R)
    seen_words = share_words S A e (map number cells)

    follow : Follow (words s.plan) seen_words instance_node (RowIs cells)
    follow = record {
      home = refl;
      others = count_same s.plan;
      nothing = λ ph. record { phase = refl; queue = refl; sends = refl };
      get = record { phase = refl; queue = refl; sends = refl };
      done = λ r. record { phase = r.phase; queue = r.queue; sends = r.sends };
    }

    -- what is served
    record ServedIs (r : Served) (did : ShareTurn R) : Type 0 where
      phase : did.phase ≡ map_phase instance_node r.phase
      queue : did.queue ≡ map number (unwrap_or r.stored cells)
      sends : did.sends ≡ outline_all f place r.sends

    keeps_same : (r : ShareRow) (did : ShareTurn R) → RowIs cells r did → ServedIs ((words s.plan).keeps r) did
    keeps_same r did h = record { phase = h.phase; queue = h.queue; sends = h.sends }

    serve_same : (cs : List FullCell) → Each (IsGenuine at packet) cs → Serve follow ServedIs keeps_same cs (map number cs)
    serve_same [] known = tt
    serve_same (c ∷ cs) known = record {
      phase = rw (member_same f at packet s.plan c is some known.0) refl;
      queue = refl;
      sends = rw (member_same f at packet s.plan c is some known.0, same_node (member_of s.plan c) (home s.plan)) refl;
    }

    -- a share that is told something, and serves
    serves_same : (r : ShareRow) (did : ShareTurn R) → RowIs cells r did → ShareFollows s.plan cells r (s_serves S A e did)
    serves_same r did h =
        let its : ServedIs (service_if_idle s.plan r.phase cells) (table.service_if_idle (share_words S A e did.queue) did.phase did.queue)
        = rw (h.phase, h.queue) (service_follows follow ServedIs keeps_same r.phase cells (map number cells) (serve_same cells genuine)) in
        record {
          phase = its.phase;
          queue = its.queue;
          sends = all-put r.sends (service_if_idle s.plan r.phase cells).sends ∙ rw (h.sends, its.sends) refl;
        }

  -- The row of a share on each message that it is told by, and on a packet.
  module _ (s : ShareState) (cells : List FullCell) (sender : ℕ) (is : s.plan.site ≡ at) (some : 0 < length s.plan.members)
      (genuine : Each (IsGenuine at packet) cells) where
    abbrev pub ShareRows : Msg → Told R → Type 0
    ShareRows m told = ShareFollows s.plan cells (row s sender m) (share_row S A (outline_share s cells) sender told)

    abbrev its : Follow (words s.plan) (seen_words s cells cells is some genuine) instance_node (RowIs cells)
    its = follow s cells cells is some genuine

    told_same : (r : ShareRow) (did : ShareTurn R) → RowIs cells r did → ShareFollows s.plan cells r (s_serves S A (outline_share s cells) did)
    told_same = serves_same s cells cells is some genuine

    -- only what comes from the home counts
    from_home : (b : Bool) (r : ShareRow) (did : ShareTurn R) → RowIs cells r did → RowIs cells (if b then r else next_phase s.phase [])
        (if b then did else s_goes S A (map_phase instance_node s.phase) (map number cells) [])
    from_home true r did h = h
    from_home false r did h = record { phase = refl; queue = refl; sends = refl }

    -- chunks that are taken, as what they spell
    taken : (chunks : List Chunk) (cs : Chunks R) → entries f chunks ≡ cs → (one : ℕ) (ph : SharePhase)
        → RowIs cells ((words s.plan).next ph (table.Sync one chunks))
        ((seen_words s cells cells is some genuine).next (map_phase instance_node ph) (table.Sync (instance_node one) cs))
    taken chunks cs spelled one ph = record { phase = refl; queue = refl; sends = rw (← spelled) (syncs_same s.plan one chunks) }

    pub fenced_rows : (op : ℕ) → ShareRows (Msg.Fenced op) Is_fenced
    fenced_rows op = told_same _ _ (from_home (sender == instance_node (home s.plan)) _ _ (fenced_follows its s.phase))

    pub chunks_rows : (op : ℕ) (chunks : List Chunk) → ShareRows (Msg.Chunks op chunks) (Has_chunks (entries f chunks))
    chunks_rows op chunks = told_same _ _ (from_home (sender == instance_node (home s.plan)) _ _
        (chunks_follows its chunks (entries f chunks) (taken chunks (entries f chunks) refl) s.phase))

    pub shared_rows : (op : ℕ) (chunk : Chunk) (entry : Unit × R) → spelled f chunk ≡ Some entry → ShareRows (Msg.Shared op chunk) (Has_chunk entry)
    shared_rows op chunk entry spells = told_same _ _ (shared_follows its (chunk ∷ []) (entry ∷ []) (taken (chunk ∷ []) (entry ∷ []) (rw spells refl))
        (λ m. sender == instance_node m) (λ m. sender == m) s.phase (λ _ _. refl))

    pub synced_rows : (op : ℕ) → ShareRows (Msg.Synced op) Is_synced
    synced_rows op = told_same _ _ (synced_follows its s.phase)

    pub packet_rows : (cell : FullCell) → IsGenuine at packet cell
        → ShareFollows s.plan (cells ++ cell ∷ []) (next_phase s.phase []) (share_row S A (outline_share s cells) sender (Has_packet (number cell)))
    packet_rows cell own = serves_same s cells (cells ++ cell ∷ []) is some (each-append (IsGenuine at packet) cells (cell ∷ []) genuine (own, tt))
        (next_phase s.phase []) (s_goes S A (map_phase instance_node s.phase) (map number cells ++ number cell ∷ []) [])
        (record { phase = refl; queue = sym (map-append number cells (cell ∷ [])); sends = refl })

-- what was served leaves nothing that waits
pub rests_after : (plan : SharePlan) (ph : SharePhase) (cells : List FullCell)
    → Rests (service_if_idle plan ph cells).phase (unwrap_or (service_if_idle plan ph cells).stored cells)
rests_after plan SharePhase.Idle (cell ∷ cells) = tt
rests_after plan SharePhase.Idle [] = tt
rests_after plan ph cells = tt

-- where nothing waits nothing is served
pub rests_served : (plan : SharePlan) (ph : SharePhase) (cells : List FullCell) → Rests ph cells
    → service_if_idle plan ph cells ≡ record { phase = ph; sends = []; stored = None }
rests_served plan SharePhase.Idle (cell ∷ cells) h = absurd h
rests_served plan SharePhase.Idle [] h = refl
rests_served plan ph cells h = refl

abbrev with_both : SharePhase → List ℕ → OpenShare → OpenShare
with_both ph q e = record e { phase = ph; queue = q }

-- an open share afterwards
pub sees_after : {R : Type 0} (f : Semantics R) (at : Site) (packet : ℕ → Packet) (place : List ℕ → Option ℕ) (e : OpenShare) (s : ShareState)
    (before cells : List FullCell) (r : ShareRow) (did : ShareTurn R)
    → SeesShare at e s before → ShareFollows f at packet place s.plan cells r did → SeesShare at (record e { phase = did.phase; queue = did.queue })
    (record s { phase = (service_if_idle s.plan r.phase cells).phase }) (unwrap_or (service_if_idle s.plan r.phase cells).stored cells)
sees_after f at packet place e s before cells r did sees follows =
    let next = service_if_idle s.plan r.phase cells in
    record {
      is = ap (with_both did.phase did.queue) sees.is
          ∙ ap (λ ph. with_both ph did.queue (outline_share s before)) follows.phase
          ∙ ap (λ q. with_both (map_phase instance_node next.phase) q (outline_share s before)) follows.queue;
      site = sees.site;
      some = sees.some;
      rests = rests_after s.plan r.phase cells;
    }
