-- What more steps after a history add to its steps, messages and clocks.
use Rattle.std.proofs.Common.{◌≡◌, ◌==◌, ℕ, Bool, true, false, if◌then◌else◌, List, [], ◌∷◌, ◌++◌, sym, ◌∙◌, ap, refl, append-nil, append_assoc}
use Rattle.actor_net.specs.Network.{Stepped, reaches}
use Rattle.actor_net.specs.Histories.{NodeStep, does, node_after, notes_of, taken_at, sent_for, with_clock, sent_to, put_between, PortsBelow, WasReady}
use Rattle.actor_threads.specs.Work.{Ticks, clock_after, put_for}

module _ {M : Type 0} where
  pub taken_at-append : (p : ℕ) (es more : List (NodeStep M)) → taken_at p (es ++ more) ≡ taken_at p es ++ taken_at p more
  taken_at-append p [] more = refl
  taken_at-append p (x ∷ xs) more = ap (λ l. (if x.port == p then x.took ∷ [] else []) ++ l) (taken_at-append p xs more)
      ∙ sym (append_assoc (if x.port == p then x.took ∷ [] else []) (taken_at p xs) (taken_at p more))

  pub ports-append : (n : ℕ) (es more : List (NodeStep M)) → PortsBelow n es → PortsBelow n more → PortsBelow n (es ++ more)
  ports-append n [] more b h = h
  ports-append n (x ∷ xs) more b h = (b.0, ports-append n xs more b.1 h)

  pub ticks-append : (clock : ℕ) (es more : List (NodeStep M)) → Ticks clock es → Ticks (clock_after clock es) more → Ticks clock (es ++ more)
  ticks-append clock [] more t h = h
  ticks-append clock (x ∷ xs) more t h = (t.0, ticks-append x.clock xs more t.1 h)

  pub clock_after-append : (clock : ℕ) (es more : List (NodeStep M)) → clock_after clock (es ++ more) ≡ clock_after (clock_after clock es) more
  clock_after-append clock [] more = refl
  clock_after-append clock (x ∷ xs) more = clock_after-append x.clock xs more

module _ {A M N : Type 0} (step : A → ℕ → M → Stepped A M N) where
  pub node_after-append : (a : A) (es more : List (NodeStep M)) → node_after step a (es ++ more) ≡ node_after step (node_after step a es) more
  node_after-append a [] more = refl
  node_after-append a (x ∷ xs) more = node_after-append (does step a x).node xs more

  pub notes_of-append : (a : A) (es more : List (NodeStep M)) → notes_of step a (es ++ more) ≡ notes_of step a es ++ notes_of step (node_after step a es) more
  notes_of-append a [] more = refl
  notes_of-append a (x ∷ xs) more = ap (λ l. (does step a x).notes ∷ l) (notes_of-append (does step a x).node xs more)

  sent_to-append : (r : ℕ) (a : A) (es more : List (NodeStep M))
      → sent_to step r a (es ++ more) ≡ sent_to step r a es ++ sent_to step r (node_after step a es) more
  sent_to-append r a [] more = refl
  sent_to-append r a (x ∷ xs) more = ap (λ l. with_clock x.clock (sent_for r (does step a x).sends) ++ l) (sent_to-append r (does step a x).node xs more)
      ∙ sym (append_assoc (with_clock x.clock (sent_for r (does step a x).sends)) (sent_to step r (does step a x).node xs) _)

  pub put_nothing : (n k r : ℕ) (a : A) → put_between step n k r a [] ≡ []
  put_nothing n k r a = elim (reaches n k r) as (λ b. (if b then sent_to step r a [] else []) ≡ []) [ true ↦ refl | false ↦ refl ]

  -- what one step puts
  pub put_one : (n k r : ℕ) (a : A) (e : NodeStep M) → put_between step n k r a (e ∷ []) ≡ put_for n k r e.clock (does step a e).sends
  put_one n k r a e =
      elim (reaches n k r) as (λ b. (if b then sent_to step r a (e ∷ []) else []) ≡ (if b then with_clock e.clock (sent_for r (does step a e).sends) else [])) [
        | true ↦ append-nil _
        | false ↦ refl
      ]

  pub put_between-append : (n k r : ℕ) (a : A) (es more : List (NodeStep M))
      → put_between step n k r a (es ++ more) ≡ put_between step n k r a es ++ put_between step n k r (node_after step a es) more
  put_between-append n k r a es more =
      elim (reaches n k r) as (λ b. (if b then sent_to step r a (es ++ more) else [])
      ≡ (if b then sent_to step r a es else []) ++ (if b then sent_to step r (node_after step a es) more else [])) [
        | true ↦ sent_to-append r a es more
        | false ↦ refl
      ]

  pub ready-append : (ready : A → M → Bool) (a : A) (es more : List (NodeStep M)) → WasReady ready step a es
      → WasReady ready step (node_after step a es) more → WasReady ready step a (es ++ more)
  ready-append ready a [] more w h = h
  ready-append ready a (x ∷ xs) more w h = (w.0, ready-append ready (does step a x).node xs more w.1 h)
