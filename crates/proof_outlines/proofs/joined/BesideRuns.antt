-- What is kept beside each world of a run: copies that are on their way, and numbers that are to come. It gives what the nodes' steps want, and each
-- choice keeps it.
use Rattle.proof_outlines.proofs.Words.{◌≡◌, ℕ, ◌+◌, ◌<◌, false, List, [], ◌∷◌, length, refl, ◌∙◌, subst, arith, ◌&&◌, ◌==◌, nat_tests, Chunk, Fits, Semantics}
use Rattle.proof_outlines.proofs.Words.{Msg, Note, Choice, Network, queue_at, world_next, at, opening_waiting, opening_weight, Taking, Takes, less_first, Each}
use Rattle.proof_outlines.proofs.Words.{EachSent, weigh, Node, node_step, node_ready, first_nodes, FunctionLaws}
use Rattle.ctrl_node.specs.Controller.{controller_at_start as opened_controller}
use Rattle.proof_outlines.proofs.joined.Words.{Given, count, Label, Joined, node_of, IsTaken, Leads}
use Rattle.proof_outlines.proofs.joined.JoinedSteps.{scene, is_taken, input_after, step_leads, takes_at, ready_at, joined_next}
use Rattle.proof_outlines.proofs.joined.NodeSteps.{Wants, node_leads}
use Rattle.proof_outlines.proofs.joined.OperationsApart.{AllApart, none_apart}
use Rattle.proof_outlines.proofs.joined.StandbyChunks.{MayStandBy}
use Rattle.proof_outlines.proofs.joined.StandbyRuns.{AreKept, kept_at_start, kept_next, open_may_stand}
use Rattle.proof_outlines.proofs.joined.CopyCounts.{keeps_of}
use Rattle.proof_outlines.proofs.joined.CopyTokens.{HasTokens, tokens_after, token_controller, token_open, switch_light}
use Rattle.proof_outlines.proofs.joined.RisingRuns.{NumbersRise, numbers_first, numbers_next, copies_next}
use Rattle.proof_outlines.proofs.joined.StartJoined.{given, all_labelled, count_at_start, start_joined}
use Rattle.proof_outlines.proofs.joined.Setting.{Setting, start}

module _ {F R : Type 0} (f : Semantics R) (g : Given) (n : ℕ) where
  pub record HasBeside (w : Network (Node F R) Msg Note) (j : Joined f g n w) : Type 0 where
    pub kept : AreKept f g n w j
    pub tokens : HasTokens w
    pub numbers : NumbersRise f g n w j

module _ {F R : Type 0} (f : Semantics R) (laws : FunctionLaws f) (g : Given) (fitting : (number : ℕ) → Fits g.site (g.packet number)) (n : ℕ)
    (count_is : n ≡ count f g + 2) (w : Network (Node F R) Msg Note) (k : Choice) (t : Taking node_ready (node_step f) n w k) (j : Joined f g n w)
    (b : HasBeside f g n w j) where
  -- what the choice takes
  pub its_takes : Takes (node_step f) n w k.node k.port (node_of j.nodes k.node) t.message t.rest
  its_takes = takes_at f g n count_is (Wants f g) (node_leads f laws g fitting n) w k t j

  stand : (op : ℕ) (chunks : List Chunk) → t.message ≡ Msg.Standby op chunks → MayStandBy f g j.world chunks
  stand op chunks is =
      let open_so = token_open f g n w j k.node k.port op chunks t.rest (omega (arith, count_is))
      (subst (λ m. Takes (node_step f) n w k.node k.port (node_of j.nodes k.node) m t.rest) is its_takes) b.tokens in
      open_may_stand f laws g n count_is (Wants f g) (node_leads f laws g fitting n) w k t j b.kept op chunks is open_so.copy open_so.there

  -- what the step wants
  pub wants : Wants f g (scene f g n count_is (Wants f g) (node_leads f laws g fitting n) w j) t.message
  wants = record { stand = stand; next = copies_next f g n count_is (Wants f g) (node_leads f laws g fitting n) w k t j b.numbers }

  pub its_taken : IsTaken f g n (scene f g n count_is (Wants f g) (node_leads f laws g fitting n) w j)
      (record { node = k.node; port = k.port; message = t.message })
  its_taken = is_taken f g n count_is (Wants f g) (node_leads f laws g fitting n) w k.node k.port t.message t.rest j its_takes
      (ready_at f g n count_is (Wants f g) (node_leads f laws g fitting n) w k t j)

  pub its_label : Label f g k.port k.node t.message
  its_label = its_taken.label

  -- and where its step leads
  pub its_leads : Leads f g n (scene f g n count_is (Wants f g) (node_leads f laws g fitting n) w j)
      (record { node = k.node; port = k.port; message = t.message }) (node_step f (node_of j.nodes k.node) k.port t.message)
  its_leads = step_leads f g n count_is (Wants f g) (node_leads f laws g fitting n) w k.node k.port t.message t.rest j its_takes
      (ready_at f g n count_is (Wants f g) (node_leads f laws g fitting n) w k t j) wants

  pub its_labels : EachSent (Label f g) k.node (node_step f (node_of j.nodes k.node) k.port t.message).sends
  its_labels = its_leads.labels

  -- and what it leaves of the input
  pub its_input : queue_at (world_next (node_step f) w k) (at 0 0) ≡ less_first ((0 == k.node) && (0 == k.port)) (queue_at w (at 0 0))
  its_input = input_after f g n count_is (Wants f g) (node_leads f laws g fitting n) w k.node k.port t.message t.rest j its_takes
      (ready_at f g n count_is (Wants f g) (node_leads f laws g fitting n) w k t j)

  pub next_joined : Joined f g n (world_next (node_step f) w k)
  next_joined = joined_next f g n count_is (Wants f g) (node_leads f laws g fitting n) w k t j wants

  pub beside_next : HasBeside f g n (world_next (node_step f) w k) next_joined
  unfolding next_joined
  beside_next =
      let l = step_leads f g n count_is (Wants f g) (node_leads f laws g fitting n) w k.node k.port t.message t.rest j its_takes
      (ready_at f g n count_is (Wants f g) (node_leads f laws g fitting n) w k t j) wants in
      record {
        kept = kept_next f laws g n count_is (Wants f g) (node_leads f laws g fitting n) w k t j b.kept wants;
        tokens = tokens_after f g n w j k.node k.port t.message t.rest its_takes l.labels b.tokens;
        numbers = numbers_next f g n count_is (Wants f g) (node_leads f laws g fitting n) w k t j b.numbers wants;
      }

module _ {F R : Type 0} (setting : Setting F R) where
  open setting use {function as f, alloc, config as c, items, is_input as is}

  abbrev given_so : Given
  given_so = given setting

  items_light : (op : ℕ) (ms : List Msg) → Each (Label f given_so 0 0) ms → weigh (keeps_of op) ms ≡ 0
  items_light op [] h = refl
  items_light op (m ∷ ms) h = let one = switch_light f given_so op 0 m h.0 in let rest = items_light op ms h.1 in omega (arith, one, rest)

  tokens_at_start : HasTokens (start setting)
  tokens_at_start = record {
    controller = opened_controller c.names c.site;
    controller_is = λ d. refl;
    few = λ op.
        let all = opening_weight Note (first_nodes {F = F} {R = R} alloc c) items (keeps_of op) in
        omega (arith, all, items_light op items (all_labelled setting));
  }

  -- but for the input nothing waits
  waits_nowhere : (i y : ℕ) → (i == 0) && (y == 0) ≡ false → queue_at (start setting) (at y i) ≡ []
  waits_nowhere i y off = opening_waiting Note (first_nodes {F = F} {R = R} alloc c) items (omega (arith, count_at_start setting)) i y
      ∙ (let swapped : (y == 0) && (i == 0) ≡ false = grind (arith, nat_tests, off) in rw swapped refl)

  pub beside_at_start : HasBeside f given_so (length c.names + 2) (start setting) (start_joined setting)
  unfolding tokens_at_start
  beside_at_start =
      let low : 1 < length c.names + 2 = omega (arith, is.is_config.some) in
      let same = token_controller f given_so (length c.names + 2) (start setting) (start_joined setting) low
      tokens_at_start in
      record {
        kept = kept_at_start f given_so (length c.names + 2) (start setting) (start_joined setting)
            (λ i y hi hy off. waits_nowhere i y off) (subst (λ x. AllApart x.operations) same none_apart);
        tokens = tokens_at_start;
        numbers = numbers_first f given_so (length c.names + 2) low (start setting) (start_joined setting) (waits_nowhere 0 1 refl);
      }
