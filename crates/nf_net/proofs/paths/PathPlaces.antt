-- What a world has of a unit that no share has on all its links, kind by kind, is what waits there at the seat that shows the unit.
use Rattle.nf_net.proofs.Words.{◌≡◌, ◌≢◌, ℕ, ◌<◌, ◌≤◌, Bool, true, false, List, [], ◌++◌, refl, sym, ap, ◌∙◌, subst, append-nil, arith, if◌then◌else◌, ◌==◌}
use Rattle.nf_net.proofs.Words.{◌&&◌, nat_lt, filter, flat_map, ltb-false, nat_tests, Decides-eqb, Decides-ltb, Msg, on_link, State, Op, expect, passes_in}
use Rattle.nf_net.proofs.Words.{events_in, for_switch, list_all, frame, passed_in, forwarded_in, handed_over_in, diverted_in, on_links, is_sys, Given, S, given}
use Rattle.nf_net.proofs.Words.{Unit, split}
use Rattle.proof_machines.proofs.unit.Path.{forwards}
use Rattle.proof_machines.proofs.unit.Sides.{OneOf, First, Second}
use Rattle.proof_machines.proofs.net.Units.{see}
use Rattle.nf_net.proofs.paths.PathSeats.{There, Is_there, Has_none, passed_from, passed_else, events_to, events_else, forwarded_to, forwarded_else}
use Rattle.nf_net.proofs.paths.PathSeats.{diverted_none}
use Rattle.nf_net.proofs.RunWords.{those-all, no_link, one_link, Reached, IsApart, HoldsAt}

if_nil : (b : Bool) (xs : List ℕ) → xs ≡ [] → (if b then xs else []) ≡ []
if_nil true xs e = e
if_nil false xs e = refl

module _ {F R : Type 0} (here : Reached F R) (u : Unit) (apart : IsApart here u) (op : Op) (third : ℕ) (x : State R)
    (holds : HoldsAt here u op third x) where
  open here use {setting, n, count, w, nodes, world}
  open setting use {function as f}

  abbrev g : Given
  g = given setting

  abbrev mine : ℕ → Bool
  mine = (frame (S f g) (see (S f g) (is_sys f g.site g.packet) u op third)).mine

  -- what stands on a link, and one link that has all there is
  module _ (of : Msg → List ℕ) (at : ℕ → ℕ → List ℕ) (is_at : (i k : ℕ) → i < n → k < n → filter mine (flat_map of (on_link w i k)) ≡ at i k) (s r : ℕ)
      (only : (i k : ℕ) → (i ≡ s → k ≡ r → ⊥) → at i k ≡ []) where
    links_there : s < n → r < n → filter mine (on_links w of) ≡ at s r
    links_there hs hr =
        those-all mine (flat_map of) w.links
        ∙ one_link w world.square (λ ms. filter mine (flat_map of ms)) s r (rw nodes hs) (rw nodes hr)
        (λ i k hi hk off. is_at i k (rw (← nodes) hi) (rw (← nodes) hk) ∙ only i k off)
        ∙ is_at s r hs hr

    links_none : at s r ≡ [] → filter mine (on_links w of) ≡ at s r
    links_none none =
        those-all mine (flat_map of) w.links
        ∙ no_link w world.square (λ ms. filter mine (flat_map of ms)) (λ i k hi hk. is_at i k (rw (← nodes) hi) (rw (← nodes) hk) ∙ empty i k)
        ∙ sym none
      where
        empty : (i k : ℕ) → at i k ≡ []
        empty i k = split (i == s) (λ _. at i k ≡ [])
            (λ a. split (k == r) (λ _. at i k ≡ []) (λ b. ap (λ v. at v k) ((Decides-eqb i s).0 a) ∙ ap (at s) ((Decides-eqb k r).0 b) ∙ none)
            (λ b. only i k (λ _ same. (let never : false ≡ true = sym b ∙ (Decides-eqb k r).1 same in cc))))
            (λ a. only i k (λ same _. (let never : false ≡ true = sym a ∙ (Decides-eqb i s).1 same in cc)))

  abbrev a : ℕ
  a = op.src

  abbrev b : ℕ
  b = op.dst

  a_two : 2 ≤ a
  a_two = holds.nodes.a_is

  b_two : 2 ≤ b
  b_two = holds.nodes.b_is

  -- packets that the controller handed on
  abbrev pass_at : ℕ → ℕ → List ℕ
  pass_at i k = if i == 0 then (if k == a then passes_in x.sa else if k == b then passes_in x.sb else []) else []

  module _ (third_none : passes_in x.sc ≡ []) where
    expect_pass : (k : ℕ) → passes_in (expect a b third x 0 k) ≡ pass_at 0 k
    expect_pass k = split (k == a)
        (λ t. passes_in (if t then x.sa else if k == b then x.sb else if k == third then x.sc else []) ≡
        (if t then passes_in x.sa else if k == b then passes_in x.sb else []))
        (λ _. refl)
        (λ _. split (k == b) (λ t. passes_in (if t then x.sb else if k == third then x.sc else []) ≡ (if t then passes_in x.sb else [])) (λ _. refl)
        (λ _. elim (k == third) as (λ t. passes_in (if t then x.sc else []) ≡ []) [ true ↦ third_none | false ↦ refl ]))

    pass_is : (i k : ℕ) → i < n → k < n → filter mine (flat_map passed_in (on_link w i k)) ≡ pass_at i k
    pass_is i k hi hk = split (i == 0)
        (λ t. filter mine (flat_map passed_in (on_link w i k)) ≡ (if t then (if k == a then passes_in x.sa else if k == b then passes_in x.sb else []) else []))
        (λ e. split (nat_lt k 2)
        (λ _. filter mine (flat_map passed_in (on_link w i k)) ≡ (if k == a then passes_in x.sa else if k == b then passes_in x.sb else []))
        (λ low.
        let off_a : (k == a) ≡ false = grind (arith, nat_tests, low, a_two) in
        let off_b : (k == b) ≡ false = grind (arith, nat_tests, low, b_two) in
        let small : k < 2 = (Decides-ltb k 2).0 low in
        rw (off_a, off_b) (passed_else here mine i k hi hk (λ h. absurd (omega (arith, small, h.1)))))
        (λ high.
        let two : 2 ≤ k = ltb-false k 2 high in
        ap (λ v. filter mine (flat_map passed_in (on_link w v k))) ((Decides-eqb i 0).0 e)
        ∙ passed_from here u apart op third x holds k two hk ∙ expect_pass k))
        (λ e. passed_else here mine i k hi hk
        (λ h. (let never : false ≡ true = sym e ∙ (Decides-eqb i 0).1 h.0 in cc)))

    -- on the link of one side alone
    pass_only : (side : ℕ) → ((k : ℕ) → k ≢ side → pass_at 0 k ≡ []) → (i k : ℕ) → (i ≡ 0 → k ≡ side → ⊥) → pass_at i k ≡ []
    pass_only side other i k off =
        split (i == 0) (λ t. (if t then (if k == a then passes_in x.sa else if k == b then passes_in x.sb else []) else []) ≡ [])
        (λ e. other k (λ same. off ((Decides-eqb i 0).0 e) same)) (λ _. refl)

    other_a : passes_in x.sb ≡ [] → (k : ℕ) → k ≢ a → pass_at 0 k ≡ []
    other_a none k off =
        let out : (k == a) ≡ false = grind (arith, nat_tests, off) in
        rw out (if_nil (k == b) (passes_in x.sb) none)

    other_b : passes_in x.sa ≡ [] → (k : ℕ) → k ≢ b → pass_at 0 k ≡ []
    other_b none k off =
        let out : (k == b) ≡ false = grind (arith, nat_tests, off) in
        rw (out, none) (if_nil (k == a) [] refl)

    own_a : pass_at 0 a ≡ passes_in x.sa
    own_a = let self = holds.apart.src in rw self refl

    own_b : pass_at 0 b ≡ passes_in x.sb
    own_b = let self = holds.apart.dst in let off = holds.apart.dst_src in rw (off, self) refl

    by_there : (side : ℕ) → There n side (pass_at 0 side) → ((k : ℕ) → k ≢ side → pass_at 0 k ≡ []) → filter mine (on_links w passed_in) ≡ pass_at 0 side
    by_there side (Is_there few) other = links_there passed_in pass_at pass_is 0 side (pass_only side other) (omega (arith, count)) few
    by_there side (Has_none none) other = links_none passed_in pass_at pass_is 0 side (pass_only side other) none

    pub passes_are : OneOf (passes_in x.sa) (passes_in x.sb) → There n a (passes_in x.sa) → There n b (passes_in x.sb)
        → filter mine (on_links w passed_in) ≡ passes_in x.sa ++ passes_in x.sb
    passes_are (First none) at_a at_b = by_there a (subst (There n a) (sym own_a) at_a) (other_a none) ∙ own_a ∙ sym (append-nil (passes_in x.sa))
        ∙ ap (λ v. passes_in x.sa ++ v) (sym none)
    passes_are (Second none) at_a at_b = by_there b (subst (There n b) (sym own_b) at_b) (other_b none) ∙ own_b ∙ ap (λ v. v ++ passes_in x.sb) (sym none)

  -- packets on their way by the switch
  abbrev forward_at : ℕ → ℕ → List ℕ
  forward_at i k = if (i == 1) && (k == 0) then forwards x.cs else []

  module _ (known : list_all for_switch x.cs ≡ true) where
    forward_is : (i k : ℕ) → i < n → k < n → filter mine (flat_map forwarded_in (on_link w i k)) ≡ forward_at i k
    forward_is i k hi hk = split ((i == 1) && (k == 0)) (λ t. filter mine (flat_map forwarded_in (on_link w i k)) ≡ (if t then forwards x.cs else []))
        (λ on.
        let i1 : i ≡ 1 = grind (arith, nat_tests, on) in
        let k0 : k ≡ 0 = grind (arith, nat_tests, on) in
        ap (λ v. filter mine (flat_map forwarded_in (on_link w v k))) i1 ∙ ap (λ v. filter mine (flat_map forwarded_in (on_link w 1 v))) k0
        ∙ forwarded_to here u apart op third x holds known)
        (λ off. forwarded_else here mine i k hi hk
        (λ h. (let on : (i == 1) && (k == 0) ≡ true = rw (h.0, h.1) refl in let never : false ≡ true = sym off ∙ on in cc)))

    pub forwards_are : filter mine (on_links w forwarded_in) ≡ forwards x.cs
    forwards_are = links_there forwarded_in forward_at forward_is 1 0 only (omega (arith, count)) (omega (arith, count))
      where
        only : (i k : ℕ) → (i ≡ 1 → k ≡ 0 → ⊥) → forward_at i k ≡ []
        only i k off = split ((i == 1) && (k == 0)) (λ t. (if t then forwards x.cs else []) ≡ [])
            (λ on. absurd (off (grind (arith, nat_tests, on)) (grind (arith, nat_tests, on)))) (λ _. refl)

  -- events
  abbrev event_at : ℕ → ℕ → List ℕ
  event_at i k = if k == 1 then (if i == a then events_in x.ac else []) else []

  module _ (none_b : events_in x.bc ≡ []) (none_c : events_in x.cc ≡ []) where
    expect_event : (i : ℕ) → 2 ≤ i → events_in (expect a b third x i 1) ≡ event_at i 1
    expect_event i two =
        let i0 : (i == 0) ≡ false = grind (arith, nat_tests, two) in
        let i1 : (i == 1) ≡ false = grind (arith, nat_tests, two) in
        rw (i0, i1) (split (i == a)
        (λ t. events_in (if t then x.ac else if i == b then x.bc else if i == third then x.cc else []) ≡ (if t then events_in x.ac else []))
        (λ _. refl)
        (λ _. split (i == b) (λ t. events_in (if t then x.bc else if i == third then x.cc else []) ≡ []) (λ _. none_b)
        (λ _. elim (i == third) as (λ t. events_in (if t then x.cc else []) ≡ []) [ true ↦ none_c | false ↦ refl ])))

    event_is : (i k : ℕ) → i < n → k < n → filter mine (flat_map handed_over_in (on_link w i k)) ≡ event_at i k
    event_is i k hi hk = split (k == 1)
        (λ t. filter mine (flat_map handed_over_in (on_link w i k)) ≡ (if t then (if i == a then events_in x.ac else []) else []))
        (λ e.
        split (nat_lt i 2) (λ _. filter mine (flat_map handed_over_in (on_link w i k)) ≡ (if i == a then events_in x.ac else []))
        (λ low.
        let off : (i == a) ≡ false = grind (arith, nat_tests, low, a_two) in
        let small : i < 2 = (Decides-ltb i 2).0 low in
        rw off (events_else here mine i k hi hk (λ h. absurd (omega (arith, small, h.0)))))
        (λ high.
        let two : 2 ≤ i = ltb-false i 2 high in
        ap (λ v. filter mine (flat_map handed_over_in (on_link w i v))) ((Decides-eqb k 1).0 e)
        ∙ events_to here u apart op third x holds i two hi ∙ expect_event i two))
        (λ e. events_else here mine i k hi hk
        (λ h. (let never : false ≡ true = sym e ∙ (Decides-eqb k 1).1 h.1 in cc)))

    event_only : (i k : ℕ) → (i ≡ a → k ≡ 1 → ⊥) → event_at i k ≡ []
    event_only i k off = split (k == 1) (λ t. (if t then (if i == a then events_in x.ac else []) else []) ≡ [])
        (λ e. split (i == a) (λ t. (if t then events_in x.ac else []) ≡ []) (λ h. absurd (off ((Decides-eqb i a).0 h) ((Decides-eqb k 1).0 e))) (λ _. refl))
        (λ _. refl)

    own_event : event_at a 1 ≡ events_in x.ac
    own_event = let self = holds.apart.src in rw self refl

    event_there : There n a (events_in x.ac) → filter mine (on_links w handed_over_in) ≡ event_at a 1
    event_there (Is_there few) = links_there handed_over_in event_at event_is a 1 event_only few (omega (arith, count))
    event_there (Has_none none) = links_none handed_over_in event_at event_is a 1 event_only (own_event ∙ none)

    pub events_are : There n a (events_in x.ac) → filter mine (on_links w handed_over_in) ≡ events_in x.ac
    events_are h = event_there h ∙ own_event

  -- nothing of it is diverted
  pub diverted_are : filter mine (on_links w diverted_in) ≡ []
  diverted_are =
      those-all mine (flat_map diverted_in) w.links
      ∙ no_link w world.square (λ ms. filter mine (flat_map diverted_in ms))
      (λ i k hi hk. diverted_none here u apart op third x holds i k (rw (← nodes) hi) (rw (← nodes) hk))
