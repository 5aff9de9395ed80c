-- What a look at one way does to a worker.
use Rattle.std.proofs.Common.{◌≡◌, ◌==◌, ◌<◌, ℕ, Bool, true, false, true≢false, if◌then◌else◌, Option, Some, None, MatchOption, IfNone}
use Rattle.std.proofs.Common.{List, [], ◌∷◌, length, slice_index_or, slice_set, sym, ◌∙◌, ap, refl, subst, inl, inr, length-set}
use Rattle.std.proofs.lemmas.Bool.Decides.{Decides-eqb}
use Rattle.std.proofs.lemmas.List.{get_or_default, get_or-set_same, get_or-set_other, set-get_or}
use Rattle.actor_net.specs.declared.stamped.Stamped.{Stamped}
use Rattle.actor_threads.specs.Ways.{Incoming, Draws, IsBlocked, last_clock}
use Rattle.actor_threads.specs.Work.{WorkerView, no_in, in_at, is_input_of, DrawsAt, Idled, Found, IsQuietAt}
use Rattle.actor_threads.proofs.WayInLemmas.{drew_nothing, drew_first}

-- a port of a node is the input only where both are 0
pub not_input : (n p : ℕ) → is_input_of n p ≡ false → n ≡ 0 → p ≡ 0 → ⊥
not_input n p other a b = true≢false (subst (λ (q : ℕ × ℕ). is_input_of q.0 q.1 ≡ false) (λ i. (a i, b i)) other)

-- a way at which nothing was done
still : {M : Type 0} (input : Bool) (way : Incoming M) → DrawsAt input way way []
still input way = record { draws = drew_nothing refl refl refl; closed = λ _. refl }

either : {X : Type 0} (b : Bool) (x : X) → (if b then x else x) ≡ x
either true x = refl
either false x = refl

module _ {A M N : Type 0} (ready : A → M → Bool) (w : WorkerView A M N) (port : ℕ) (old way : Incoming M) (is : old ≡ slice_index_or w.ins port old)
    (within : port < length w.ins) where
  abbrev now : WorkerView A M N
  now = record w { ins = slice_set w.ins port way }

  here : old ≡ in_at w.ins port
  here = is ∙ get_or_default w.ins port old no_in within

  unchanged : way ≡ old → now ≡ w
  unchanged e = ap (λ (l : List (Incoming M)). record w { ins = l }) (ap (λ (v : Incoming M). slice_set w.ins port v) (e ∙ here) ∙ set-get_or w.ins port no_in)

  drawn : (used : List (Stamped M)) → DrawsAt (is_input_of w.number port) old way used
      → (p : ℕ) → p < length w.ins → DrawsAt (is_input_of w.number p) (in_at w.ins p) (in_at (slice_set w.ins port way) p) (if port == p then used else [])
  drawn used d p inside =
      let at_port : DrawsAt (is_input_of w.number port) (in_at w.ins port) (in_at (slice_set w.ins port way) port) used =
      subst (λ (v : Incoming M × Incoming M). DrawsAt (is_input_of w.number port) v.0 v.1 used)
      (λ i. (here i, sym (get_or-set_same w.ins port way no_in within) i)) d in
      elim (port == p)
      as (λ b. (port == p) ≡ b → DrawsAt (is_input_of w.number p) (in_at w.ins p) (in_at (slice_set w.ins port way) p) (if b then used else [])) [
        | true ↦ λ t. subst (λ q. DrawsAt (is_input_of w.number q) (in_at w.ins q) (in_at (slice_set w.ins port way) q) used) ((Decides-eqb port p).0 t) at_port
        | false ↦ λ f. subst (λ (v : Incoming M). DrawsAt (is_input_of w.number p) (in_at w.ins p) v [])
            (sym (get_or-set_other w.ins port p way no_in (λ e. true≢false (sym ((Decides-eqb port p).1 (sym e)) ∙ f)))) (still _ _)
      ] refl

  -- the next of what is kept
  pub kept_found : (r : Option (Stamped M))
      → ((x : Stamped M) (rest : List (Stamped M)) → old.kept ≡ x ∷ rest → w.number ≡ 0 → port ≡ 0 → ready w.node x.message ≡ true)
      → MatchOption r (way ≡ old) (λ x. (x.clock < last_clock) × (old.kept ≡ x ∷ way.kept)) → (way.link ≡ old.link) × (way.done ≡ old.done)
      → MatchOption r (now ≡ w) (λ x. Found ready w now (port, x))
  kept_found None ok e same = unchanged e
  kept_found (Some x) ok e same = record {
    rest = refl;
    count = length-set w.ins port way;
    within = within;
    stamp = e.0;
    taken = drawn (x ∷ []) (record { draws = drew_first x same.1 e.1 same.0; closed = λ _. same.1 });
    was_ready = ok x way.kept e.1;
  }

  -- the next message from the take end
  pub end_found : (r : Option (Stamped M)) → is_input_of w.number port ≡ false
      → MatchOption r (Draws old way []) (λ x. (x.clock < last_clock) × Draws old way (x ∷ []))
      → MatchOption r (Idled w now) (λ x. Found ready w now (port, x))
  end_found None other d = record {
    rest = refl;
    count = length-set w.ins port way;
    taken = λ p inside. subst (λ l. DrawsAt (is_input_of w.number p) (in_at w.ins p) (in_at (slice_set w.ins port way) p) l) (either (port == p) [])
        (drawn [] (record { draws = d; closed = λ t. absurd (true≢false (sym t ∙ other)) }) p inside);
  }
  end_found (Some x) other d = record {
    rest = refl;
    count = length-set w.ins port way;
    within = within;
    stamp = d.0;
    taken = drawn (x ∷ []) (record { draws = d.1; closed = λ t. absurd (true≢false (sym t ∙ other)) });
    was_ready = λ n p. absurd (not_input w.number port other n p);
  }

  -- what is kept is blocked
  pub blocked_quiet : (r : Option (Stamped M)) → IfNone r (IsBlocked old) → IfNone r (IsQuietAt ready w port)
  blocked_quiet None b = λ x rest e. inr (inl (b x rest (ap (λ (v : Incoming M). v.kept) here ∙ e)))
  blocked_quiet (Some x) b = b

  -- the node isn't ready for the first item of the input
  pub unready_quiet : (clock : ℕ) (item : M) (rest : List (Stamped M)) → old.kept ≡ record { clock = clock; message = item } ∷ rest
      → is_input_of w.number port ≡ true → ready w.node item ≡ false → IsQuietAt ready w port
  unready_quiet clock item rest first input unready = λ x more e.
      let same : record { clock = clock; message = item } ≡ x = ap (λ (l : List (Stamped M)). slice_index_or l 0 x)
      (sym first ∙ ap (λ (v : Incoming M). v.kept) here ∙ e) in
      inr (inr (input, ap (λ (y : Stamped M). ready w.node y.message) (sym same) ∙ unready))

-- the node is ready for the first of what is kept
pub ready_first : {A M : Type 0} (ready : A → M → Bool) (node : A) (clock : ℕ) (item : M) (kept more : List (Stamped M))
    → kept ≡ record { clock = clock; message = item } ∷ more → ready node item ≡ true
    → (x : Stamped M) (rest : List (Stamped M)) → kept ≡ x ∷ rest → ready node x.message ≡ true
ready_first ready node clock item kept more first is_so x rest e =
    let same : record { clock = clock; message = item } ≡ x = ap (λ (l : List (Stamped _)). slice_index_or l 0 x) (sym first ∙ e) in
    ap (λ (y : Stamped _). ready node y.message) (sym same) ∙ is_so

-- the same, of a worker that is seen by its fields
module _ {A M N : Type 0} (ready : A → M → Bool) {before w : WorkerView A M N} (e : before ≡ w) (port : ℕ) (old way : Incoming M)
    (is : old ≡ slice_index_or before.ins port old) (within : port < length w.ins) where
  abbrev set : WorkerView A M N
  set = record before { ins = slice_set before.ins port way }

  inside : port < length before.ins
  inside = subst (λ (v : WorkerView A M N). port < length v.ins) (sym e) within

  pub kept_at : (r : Option (Stamped M))
      → ((x : Stamped M) (rest : List (Stamped M)) → old.kept ≡ x ∷ rest → before.number ≡ 0 → port ≡ 0 → ready before.node x.message ≡ true)
      → MatchOption r (way ≡ old) (λ x. (x.clock < last_clock) × (old.kept ≡ x ∷ way.kept)) → (way.link ≡ old.link) × (way.done ≡ old.done)
      → MatchOption r (set ≡ w) (λ x. Found ready w set (port, x))
  kept_at r ok k same = subst (λ (v : WorkerView A M N). MatchOption r (set ≡ v) (λ x. Found ready v set (port, x))) e
      (kept_found ready before port old way is inside r ok k same)

  pub end_at : (r : Option (Stamped M)) → is_input_of w.number port ≡ false
      → MatchOption r (Draws old way []) (λ x. (x.clock < last_clock) × Draws old way (x ∷ []))
      → MatchOption r (Idled w set) (λ x. Found ready w set (port, x))
  end_at r other d = subst (λ (v : WorkerView A M N). MatchOption r (Idled v set) (λ x. Found ready v set (port, x))) e
      (end_found ready before port old way is inside r (ap (λ (v : WorkerView A M N). is_input_of v.number port) e ∙ other) d)

  pub quiet_at : (r : Option (Stamped M)) → IfNone r (IsBlocked old) → IfNone r (IsQuietAt ready w port)
  quiet_at r b = subst (λ (v : WorkerView A M N). IfNone r (IsQuietAt ready v port)) e (blocked_quiet ready before port old way is inside r b)

-- two reads of one element
pub same_element : {X : Type 0} (xs : List X) (i : ℕ) (a b : X) → a ≡ slice_index_or xs i a → b ≡ slice_index_or xs i b → i < length xs → a ≡ b
same_element xs i a b p q h = p ∙ get_or_default xs i a b h ∙ sym q
