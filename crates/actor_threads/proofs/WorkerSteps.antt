-- Looks and steps of a worker, one after the other.
use Rattle.std.proofs.Common.{◌≡◌, ◌==◌, ◌<◌, ℕ, ◌+◌, length-append, Bool, true, if◌then◌else◌, List, []}
use Rattle.std.proofs.Common.{◌∷◌, ◌++◌, length, sym, ◌∙◌, ap, refl, subst, append-nil, append_assoc}
use Rattle.std.proofs.lemmas.List.{map-append}
use Rattle.actor_net.specs.declared.stamped.Stamped.{Stamped}
use Rattle.actor_net.specs.Network.{Stepped}
use Rattle.actor_net.specs.Histories.{NodeStep, history_of, node_after, notes_of, taken_at, put_between, WasReady, PortsBelow}
use Rattle.actor_threads.specs.Ways.{Incoming, Outgoing, Draws, Sends}
use Rattle.actor_threads.specs.Work.{WorkerView, in_at, out_at, tick, Ticks, clock_after, put_for, is_input_of, DrawsAt, Idled, Found, Acted, Worked}
use Rattle.actor_threads.proofs.WayInLemmas.{drew_nothing}
use Rattle.actor_threads.proofs.LongerHistories.{taken_at-append, ports-append, ticks-append, clock_after-append, node_after-append}
use Rattle.actor_threads.proofs.LongerHistories.{notes_of-append, put_between-append, put_nothing, put_one, ready-append}

module _ {M : Type 0} where
  draws_then : {a b c : Incoming M} {u v : List (Stamped M)} → Draws a b u → Draws b c v → Draws a c (u ++ v)
  draws_then {a} {b} {c} {u} {v} d e = record {
    grown = d.grown ++ e.grown;
    done = e.done ∙ ap (λ l. l ++ e.grown) d.done ∙ append_assoc a.done d.grown e.grown;
    whole = sym (append_assoc a.kept d.grown e.grown) ∙ ap (λ l. l ++ e.grown) d.whole ∙ append_assoc u b.kept e.grown ∙ ap (λ l. u ++ l) e.whole
        ∙ sym (append_assoc u v c.kept);
    link = e.link ∙ d.link;
  }

  drawsAt_then : {i : Bool} {a b c : Incoming M} {u v : List (Stamped M)} → DrawsAt i a b u → DrawsAt i b c v → DrawsAt i a c (u ++ v)
  drawsAt_then d e = record { draws = draws_then d.draws e.draws; closed = λ t. e.closed t ∙ d.closed t }

  sends_then : {a b c : Outgoing M} {u v : List (Stamped M)} → Sends a b u → Sends b c v → Sends a c (u ++ v)
  sends_then {a} {b} {c} {u} {v} d e = record { all = e.all ∙ ap (λ l. l ++ v) d.all ∙ append_assoc a.all u v; link = e.link ∙ d.link }

module _ {A M N : Type 0} (ready : A → M → Bool) where
  -- no look yet
  pub no_look : (w : WorkerView A M N) → Idled w w
  no_look w = record { rest = refl; count = refl; taken = λ p h. record { draws = drew_nothing refl refl refl; closed = λ _. refl } }

  -- one more port at which there was nothing
  pub idled_then : (a b c : WorkerView A M N) → Idled a b → Idled b c → Idled a c
  idled_then a b c i j = record {
    rest = j.rest ∙ ap (λ (v : WorkerView A M N). record v { ins = c.ins }) i.rest;
    count = j.count ∙ i.count;
    taken = λ p h. drawsAt_then (i.taken p h) (subst (λ k. DrawsAt (is_input_of k p) (in_at b.ins p) (in_at c.ins p) [])
        (ap (λ (v : WorkerView A M N). v.number) i.rest) (j.taken p (subst (λ k. p < k) (sym i.count) h)));
  }

  -- a port at which there was a message
  pub idled_found : (a b c : WorkerView A M N) (port : ℕ) (x : Stamped M) → Idled a b → Found ready b c (port, x) → Found ready a c (port, x)
  idled_found a b c port x i f = record {
    rest = f.rest ∙ ap (λ (v : WorkerView A M N). record v { ins = c.ins }) i.rest;
    count = f.count ∙ i.count;
    within = subst (λ k. port < k) i.count f.within;
    stamp = f.stamp;
    taken = λ p h. drawsAt_then (i.taken p h) (subst (λ k. DrawsAt (is_input_of k p) (in_at b.ins p) (in_at c.ins p) (if port == p then x ∷ [] else []))
        (ap (λ (v : WorkerView A M N). v.number) i.rest) (f.taken p (subst (λ k. p < k) (sym i.count) h)));
    was_ready = λ n q. subst (λ (v : A). ready v x.message ≡ true) (ap (λ (v : WorkerView A M N). v.node) i.rest)
        (f.was_ready (ap (λ (v : WorkerView A M N). v.number) i.rest ∙ n) q);
  }

module _ {A M N : Type 0} (ready : A → M → Bool) (step : A → ℕ → M → Stepped A M N) where
  -- a look that found nothing is no step
  pub looked : (old new : WorkerView A M N) → Idled old new → Worked ready step old new
  looked old new i = record {
    node_steps = [];
    number = ap (λ (v : WorkerView A M N). v.number) i.rest;
    node = ap (λ (v : WorkerView A M N). v.node) i.rest;
    steps = ap (λ (v : WorkerView A M N). v.steps) i.rest ∙ sym (append-nil _);
    notes = ap (λ (v : WorkerView A M N). v.notes) i.rest ∙ sym (append-nil _);
    count_ins = i.count;
    count_outs = ap (λ (v : WorkerView A M N). length v.outs) i.rest;
    taken = i.taken;
    sent = λ r h. record {
      all = ap (λ (v : WorkerView A M N). (out_at v.outs r).all) i.rest ∙ sym (append-nil _)
          ∙ ap (λ l. (out_at old.outs r).all ++ l) (sym (put_nothing step (length old.outs) old.number r old.node));
      link = ap (λ (v : WorkerView A M N). (out_at v.outs r).link) i.rest;
    };
    ports = tt;
    was_ready = λ _. tt;
    ticks = tt;
    clock = ap (λ (v : WorkerView A M N). v.clock) i.rest;
  }

  -- no step yet
  pub start : (w : WorkerView A M N) → Worked ready step w w
  start w = looked w w (no_look ready w)

  -- a look that found a message, and then the step with it
  module _ (old found new : WorkerView A M N) (p : ℕ) (x : Stamped M) (f : Found ready old found (p, x)) (a : Acted step found new (p, x)) where
    abbrev e : NodeStep M
    e = record { clock = tick found.clock x; port = p; took = x }

    sent_is : (r : ℕ) → r < length old.outs → Sends (out_at old.outs r) (out_at new.outs r) (put_between step (length old.outs) old.number r old.node (e ∷ []))
    sent_is r h =
        let s : Sends (out_at old.outs r) (out_at new.outs r) (put_for (length old.outs) old.number r (tick found.clock x) (step old.node p x.message).sends) =
        subst (λ (v : WorkerView A M N). Sends (out_at v.outs r) (out_at new.outs r)
        (put_for (length v.outs) v.number r (tick found.clock x) (step v.node p x.message).sends)) f.rest
        (a.sent r (subst (λ (v : WorkerView A M N). r < length v.outs) (sym f.rest) h)) in
        subst (λ l. Sends (out_at old.outs r) (out_at new.outs r) l) (sym (put_one step (length old.outs) old.number r old.node e)) s

    pub did : Worked ready step old new
    did = record {
      node_steps = e ∷ [];
      number = ap (λ (v : WorkerView A M N). v.number) a.rest ∙ ap (λ (v : WorkerView A M N). v.number) f.rest;
      node = ap (λ (v : WorkerView A M N). v.node) a.rest ∙ ap (λ (v : WorkerView A M N). (step v.node p x.message).node) f.rest;
      steps = ap (λ (v : WorkerView A M N). v.steps) a.rest ∙ ap (λ (v : WorkerView A M N). v.steps ++ (e.clock, p) ∷ []) f.rest;
      notes = ap (λ (v : WorkerView A M N). v.notes) a.rest ∙ ap (λ (v : WorkerView A M N). v.notes ++ (step v.node p x.message).notes ∷ []) f.rest;
      count_ins = ap (λ (v : WorkerView A M N). length v.ins) a.rest ∙ f.count;
      count_outs = a.count ∙ ap (λ (v : WorkerView A M N). length v.outs) f.rest;
      taken = λ q h. subst (λ (v : List (Incoming M) × List (Stamped M)). DrawsAt (is_input_of old.number q) (in_at old.ins q) (in_at v.0 q) v.1)
          (λ i. (sym (ap (λ (v : WorkerView A M N). v.ins) a.rest) i, sym (append-nil (if p == q then x ∷ [] else [])) i)) (f.taken q h);
      sent = sent_is;
      ports = (f.within, tt);
      was_ready = λ first. (λ q. f.was_ready first q, tt);
      ticks = (ap (λ (v : WorkerView A M N). tick v.clock x) f.rest, tt);
      clock = ap (λ (v : WorkerView A M N). v.clock) a.rest;
    }

    -- and it is longer by one step
    pub longer : length new.steps ≡ length old.steps + 1
    longer = ap (λ (v : WorkerView A M N). length v.steps) a.rest ∙ length-append found.steps _ ∙ ap (λ (v : WorkerView A M N). length v.steps + 1) f.rest

  -- steps, and then more steps
  pub worked_then : (old mid new : WorkerView A M N) → Worked ready step old mid → Worked ready step mid new → Worked ready step old new
  worked_then old mid new u v =
      let es : List (NodeStep M) = u.node_steps in
      let more : List (NodeStep M) = v.node_steps in
      record {
        node_steps = es ++ more;
        number = v.number ∙ u.number;
        node = v.node ∙ ap (λ b. node_after step b more) u.node ∙ sym (node_after-append step old.node es more);
        steps = v.steps ∙ ap (λ l. l ++ history_of more) u.steps ∙ append_assoc old.steps (history_of es) (history_of more)
            ∙ ap (λ l. old.steps ++ l) (sym (map-append _ es more));
        notes = v.notes ∙ ap (λ l. l ++ notes_of step mid.node more) u.notes ∙ append_assoc old.notes (notes_of step old.node es) (notes_of step mid.node more)
            ∙ ap (λ l. old.notes ++ l) (ap (λ b. notes_of step old.node es ++ notes_of step b more) u.node ∙ sym (notes_of-append step old.node es more));
        count_ins = v.count_ins ∙ u.count_ins;
        count_outs = v.count_outs ∙ u.count_outs;
        taken = λ p h. subst (λ l. DrawsAt (is_input_of old.number p) (in_at old.ins p) (in_at new.ins p) l) (sym (taken_at-append p es more))
            (drawsAt_then (u.taken p h) (subst (λ k. DrawsAt (is_input_of k p) (in_at mid.ins p) (in_at new.ins p) (taken_at p more)) u.number
            (v.taken p (subst (λ k. p < k) (sym u.count_ins) h))));
        sent = λ r h. subst (λ l. Sends (out_at old.outs r) (out_at new.outs r) l)
            (sym (put_between-append step (length old.outs) old.number r old.node es more))
            (sends_then (u.sent r h) (subst (λ (y : ℕ × ℕ × A). Sends (out_at mid.outs r) (out_at new.outs r) (put_between step y.0 y.1 r y.2 more))
            (λ i. (u.count_outs i, u.number i, u.node i)) (v.sent r (subst (λ k. r < k) (sym u.count_outs) h))));
        ports = ports-append (length old.ins) es more u.ports (subst (λ n. PortsBelow n more) u.count_ins v.ports);
        was_ready = λ first. ready-append step ready old.node es more (u.was_ready first)
            (subst (λ b. WasReady ready step b more) u.node (v.was_ready (u.number ∙ first)));
        ticks = ticks-append old.clock es more u.ticks (subst (λ k. Ticks k more) u.clock v.ticks);
        clock = v.clock ∙ ap (λ k. clock_after k more) u.clock ∙ sym (clock_after-append old.clock es more);
      }
