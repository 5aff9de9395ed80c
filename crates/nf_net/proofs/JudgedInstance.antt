-- An instance says of a move's state and of its verdict what is known of them, notes once that state is given, and keeps its limit and its mark.
use Rattle.nf_net.proofs.Words.{◌≡◌, ℕ, Bool, true, false, Option, Some, None, List, [], ◌∷◌, map, refl, ◌∙◌, subst, arith, if◌then◌else◌, ◌||◌, option_map}
use Rattle.nf_net.proofs.Words.{Filter, Chunk, Semantics, unit_at, record_chunk, part, Mark, FullCell, Answer, Piece, Msg, switch_node, EachSent, Each, pieces}
use Rattle.nf_net.proofs.Words.{to_controller, share_message, and_then, piece_refusal, instance_step, selected_chunks, chunk_told, with_count, table_after}
use Rattle.nf_net.proofs.Words.{may_process, instance_fits, sent-append, Unit, Done}
use Rattle.std.specs.FinMap as finite
use Rattle.instance_worker.specs.declared.instance.Instance.{Instance}
use Rattle.instance_worker.specs.Instance.{Step, still, process_step, on_get, on_stream}
use Rattle.nf_net.proofs.MoveJudged.{Said}
use Rattle.nf_net.proofs.answers.MoveOnce.{counts}
use Rattle.nf_net.proofs.VerdictLemmas.{times_given, times_given-append}

-- the answer by a refusal, or by none
abbrev pub answer_by : Option Answer → Answer
answer_by (Some why) = why
answer_by None = Done

module _ (Part : ℕ → Piece → Type 0) (Verdict : ℕ → Answer → Type 0) (Goes : ℕ → ℕ → Type 0) (k : ℕ) where
  abbrev Says : List (ℕ × Msg) → Type 0
  Says sends = EachSent (Said Part Verdict Goes) k sends

  chunk_says : (op : ℕ) (o : Option Chunk) → Says (to_controller (chunk_told op o))
  chunk_says op None = tt
  chunk_says op (Some chunk) = (tt, tt)

  pieces_say : (op : ℕ) (ps : List Piece) → Each (Part op) ps → Says (to_controller (map (Msg.Piece op) ps))
  pieces_say op [] h = tt
  pieces_say op (p ∷ ps) h = (h.0, pieces_say op ps h.1)

  -- whether a message asks for state
  abbrev gives_state : Msg → Bool
  gives_state (Msg.Get op filter) = true
  gives_state (Msg.Stream op filter) = true
  gives_state m = false

  module _ {F R : Type 0} (f : Semantics R) where
    -- what a step says, how often it notes that state is given, and what it keeps
    pub record Does (gives : ℕ → ℕ) (i : Instance F R) (did : Step F R) : Type 0 where
      pub limit : did.node.limit ≡ i.limit
      pub marked : did.node.marked ≡ i.marked
      pub says : EachSent (Said Part Verdict Goes) k did.sends
      pub given : (op : ℕ) → times_given op did.notes ≡ gives op

    abbrev Quiet : Instance F R → Step F R → Type 0
    Quiet i did = Does (λ op. 0) i did

    still_does : (i : Instance F R) → Quiet i (still i)
    still_does i = record { limit = refl; marked = refl; says = tt; given = λ op. refl }

    -- one step and then another
    then_does : (i : Instance F R) (did : Step F R) (next : Instance F R → Step F R) → Quiet i did → Quiet did.node (next did.node)
        → Quiet i (and_then did next)
    then_does i did next a b = record {
      limit = b.limit ∙ a.limit;
      marked = b.marked ∙ a.marked;
      says = sent-append (Said Part Verdict Goes) k did.sends (next did.node).sends a.says b.says;
      given = λ op. (let both = times_given-append op did.notes (next did.node).notes in
          let first = a.given op in let second = b.given op in omega (arith, both, first, second));
    }

    shared_says : (i : Instance F R) (m : Mark) (u : Unit) → Says (to_controller (share_message f i m u))
    shared_says i (Mark.Shared op home) u = chunk_says op (option_map (record_chunk f u) (finite.get (part i.table home) u))
    shared_says i m u = tt

    processed_does : (i : Instance F R) (m : Mark) (cell : FullCell) → Quiet i (process_step f i m cell)
    unfolding process_step
    processed_does i m cell =
        let after = with_count (record i { table = table_after f i m cell.packet }) in
        let u = unit_at f.kind i.site cell.packet in
        record {
          limit = refl;
          marked = refl;
          says = sent-append (Said Part Verdict Goes) k (to_controller (share_message f after m u)) ((switch_node, Msg.Credit cell) ∷ [])
              (shared_says after m u) (tt, tt);
          given = λ op. refl;
        }

    stream_does : (i : Instance F R) (op : ℕ) (filter : Filter) → Each (Part op) (pieces (selected_chunks f i filter))
        → Does (counts (Msg.Stream op filter) false) i (on_stream f i op filter)
    unfolding on_stream
    stream_does i op filter h = record { limit = refl; marked = refl; says = pieces_say op (pieces (selected_chunks f i filter)) h; given = λ q. omega arith }

    get_does : (i : Instance F R) (op : ℕ) (filter : Filter) → Does (counts (Msg.Get op filter) false) i (on_get f i op filter)
    unfolding on_get
    get_does i op filter = record { limit = refl; marked = refl; says = (tt, tt); given = λ q. omega arith }

    -- what is known where an instance takes a message: of the pieces that it gives, and of its answer to one that is put
    abbrev pub IsReady : Instance F R → Msg → Type 0
    IsReady i (Msg.Stream op filter) = Each (Part op) (pieces (selected_chunks f i filter))
    IsReady i (Msg.Put op piece first) = Verdict op (answer_by (if first then piece_refusal i piece else None))
    IsReady i m = Prim.Unit {0}

    always_ready : (i : Instance F R) (m : Msg) → may_process m ≡ true → IsReady i m
    always_ready i (Msg.Stream op filter) e = cc
    always_ready i (Msg.Put op piece first) e = cc
    always_ready i m e = tt

    quiet_does : (i : Instance F R) (m : Msg) → gives_state m ≡ false → IsReady i m → Quiet i (instance_step f i m)
    quiet_does = instance_fits f (λ i m did. gives_state m ≡ false → IsReady i m → Quiet i did) (record {
      still = λ i m e h. still_does i;
      held = λ i mk cell op e h. record { limit = refl; marked = refl; says = tt; given = λ q. refl };
      processed = λ i mk cell e h. processed_does i mk cell;
      released = λ i op cell e h. processed_does i Mark.Plain cell;
      both = λ i m did next w a b e h. then_does i did next (a e h) (b e (always_ready did.node m w));
      unruled = λ i op did a e h. (let all = a e h in record { limit = all.limit; marked = all.marked; says = all.says; given = all.given });
      seen = λ i mk cell op e h. record { limit = refl; marked = refl; says = (tt, tt); given = λ q. refl };
      event = λ i mk cell op e h. record { limit = refl; marked = refl; says = (tt, tt); given = λ q. refl };
      fenced = λ i op e h. record { limit = refl; marked = refl; says = (tt, tt); given = λ q. refl };
      stopped = λ i e h. record { limit = refl; marked = refl; says = (tt, tt); given = λ q. refl };
      enabled = λ i op filter action e h. record { limit = refl; marked = refl; says = (tt, tt); given = λ q. refl };
      given = λ i op filter e h. cc;
      streamed = λ i op filter e h. cc;
      all_given = λ i op e h. record { limit = refl; marked = refl; says = (tt, tt); given = λ q. refl };
      deleted = λ i op gone e h. record { limit = refl; marked = refl; says = (tt, tt); given = λ q. refl };
      refused = λ i op piece first why is e h.
          record { limit = refl; marked = refl; says = (subst (λ o. Verdict op (answer_by o)) is h, tt); given = λ q. refl };
      taken = λ i op piece first is e h. record {
        limit = refl;
        marked = refl;
        says = elim (first || piece.last) as (λ b. Says (to_controller (if b then Msg.PutOk op ∷ [] else [])))
            [ true ↦ (subst (λ o. Verdict op (answer_by o)) is h, tt) | false ↦ tt ];
        given = λ q. refl;
      };
      restored = λ i op chunks e h. record { limit = refl; marked = refl; says = (tt, tt); given = λ q. refl };
      stood_by = λ i op chunks e h. record { limit = refl; marked = refl; says = (tt, tt); given = λ q. refl };
      synced = λ i home op chunks e h. record { limit = refl; marked = refl; says = (tt, tt); given = λ q. refl };
      merged = λ i op chunk slots is e h. record { limit = refl; marked = refl; says = (tt, tt); given = λ q. refl };
    })

    pub instance_does : (i : Instance F R) (m : Msg) → IsReady i m → Does (counts m false) i (instance_step f i m)
    instance_does i (Msg.Get op filter) h = get_does i op filter
    instance_does i (Msg.Stream op filter) h = stream_does i op filter h
    instance_does i (Msg.Put op piece true) h = quiet_does i (Msg.Put op piece true) refl h
    instance_does i (Msg.Put op piece false) h = quiet_does i (Msg.Put op piece false) refl h
    instance_does i m h = quiet_does i m refl h
