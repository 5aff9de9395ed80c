-- An instance has live records of no more units than packets have arrived: each of these units has a packet that was processed.
use Rattle.nf_net.proofs.Words.{◌≡◌, ℕ, ◌+◌, ◌<◌, ◌≤◌, true, false, cond, Some, None, List, [], ◌∷◌, ◌++◌, map, length, refl, sym, ap, ◌∙◌, subst, arith}
use Rattle.nf_net.proofs.Words.{if◌then◌else◌, ◌||◌, ◌==◌, filter, get-entries, len-entries, keys_of, nat_tests, length-map, unit_at, unit_cmp, Msg, Note}
use Rattle.nf_net.proofs.Words.{Records, same_unit, distinct_entries, same_unit_equiv, Network, Ran, done_u, ran_of, packets_done, live_front, Node, arrived_of}
use Rattle.nf_net.proofs.Words.{processed_of, packet_numbered, arrivals_in, is_sys, Given, S, A, came_by, Joined, done_same, given, Unit, split, Setting}
use Rattle.std.specs.FinMap as finite
use Rattle.std.specs.FinMap.{find}
use Rattle.std.specs.Set.{is_member}
use Rattle.std.proofs.lemmas.Map.Entries.{length-keys_of}
use Rattle.std.proofs.lemmas.Map.Made.{length-le_from_is_member}
use Rattle.proof_machines.proofs.share.Share.{runs}
use Rattle.proof_machines.proofs.share.Stages.{packets}
use Rattle.net_world.specs.Fold.{times}
use Rattle.proof_outlines.proofs.joined.RunsJoined.{once}

-- a key of entries is found
found_key : {R : Type 0} (q : Unit) (es : List (Unit × R)) → is_member same_unit (keys_of es) q ≡ true → find unit_cmp q es ≡ None → ⊥
found_key q [] h none = cc
found_key q (e ∷ es) h none =
    split (same_unit q e.0) (λ b. b || is_member same_unit (keys_of es) q ≡ true → cond b (Some e.1) (find unit_cmp q es) ≡ None → ⊥) (λ _ _ never. cc)
    (λ _ more rest. found_key q es more rest) h none

-- of a unit that isn't among the packets' units there is no packet
none_of : (unit : ℕ → Unit) (q : Unit) (ps : List ℕ) → is_member same_unit (map unit ps) q ≡ false → filter (λ p. same_unit (unit p) q) ps ≡ []
none_of unit q [] h = refl
none_of unit q (p ∷ ps) h =
    split (same_unit q (unit p))
    (λ b. b || is_member same_unit (map unit ps) q ≡ false →
    (if same_unit (unit p) q then p ∷ filter (λ x. same_unit (unit x) q) ps else filter (λ x. same_unit (unit x) q) ps) ≡ [])
    (λ _ never. cc) (λ off rest. let apart : same_unit (unit p) q ≡ false = same_unit_equiv.symm (unit p) q ∙ off in rw apart (none_of unit q ps rest)) h

none_in : (xs : List ℕ) → ((p : ℕ) → times p xs ≤ 0) → xs ≡ []
none_in [] h = refl
none_in (x ∷ xs) h =
    let one = h x in
    let self : (x == x) ≡ true = grind (arith, nat_tests) in
    let more : 1 + times x xs ≤ 0 = rw self at one in
    absurd (omega (arith, more))

no_packets : (ds : List Ran) → packets ds ≡ [] → ds ≡ []
no_packets [] e = refl
no_packets (d ∷ ds) e = cc

no_front : {X : Type 0} (ds xs zs : List X) → ds ≡ [] → ds ≡ xs ++ zs → xs ≡ []
no_front ds [] zs none e = refl
no_front ds (x ∷ xs) zs none e = let never : [] ≡ x ∷ (xs ++ zs) = sym none ∙ e in cc

module _ {F R : Type 0} (setting : Setting F R) (n : ℕ) (w : Network (Node F R) Msg Note) (j : Joined setting.function (given setting) n w) where
  open setting use {function as f, config as c, items}

  abbrev g : Given
  g = given setting

  -- a unit of which nothing came
  module _ (u : Unit) (none : arrived_of f c items u w.log ≡ []) where
    none_done : done_u (S f g) u j.world.done ≡ []
    none_done = done_same setting n w j u ∙ none_in (processed_of f c items u w.log)
        (λ p. subst (λ ps. times p (processed_of f c items u w.log) ≤ times p ps) none (once setting n w j u p))

    none_ran : ran_of (S f g) (A f g) u j.world.done ≡ []
    none_ran = no_packets (ran_of (S f g) (A f g) u j.world.done) (packets_done (S f g) (A f g) u j.world.done ∙ none_done)

    -- has no record
    none_live : (k : ℕ) → 2 ≤ k → k < n → finite.get (j.nodes.instance k).table.live u ≡ None
    none_live k two few =
        let front = live_front (S f g) (A f g) (is_sys f g.site g.packet) u j.world (came_by f g w.log u) j.shown_is.every.global (j.shown_is.every.unit u) k in
        let nothing = no_front (ran_of (S f g) (A f g) u j.world.done) front.seen front.front.0 none_ran front.front.1 in
        ap (λ x. finite.get x.live u) (j.shown_is.instances k two few).outline_is ∙ front.fold ∙ ap (runs (S f g).F None) nothing

  abbrev unit : ℕ → Unit
  unit p = unit_at f.kind c.site (packet_numbered items p)

  module _ (k : ℕ) (two : 2 ≤ k) (few : k < n) where
    abbrev live : Records R
    live = (j.nodes.instance k).table.live

    has_packet : (q : Unit) → is_member same_unit (keys_of (finite.entries live)) q ≡ true → is_member same_unit (map unit (arrivals_in w.log)) q ≡ true
    has_packet q h = split (is_member same_unit (map unit (arrivals_in w.log)) q) (λ b. b ≡ true) (λ _. refl)
        (λ off. absurd (found_key q (finite.entries live) h (sym (get-entries live q) ∙ none_live q (none_of unit q (arrivals_in w.log) off) k two few)))

    -- so live records are few
    pub live_few : finite.len (j.nodes.instance k).table.live ≤ length (arrivals_in w.log)
    live_few =
        let less = length-le_from_is_member same_unit_equiv (keys_of (finite.entries live)) (map unit (arrivals_in w.log)) (distinct_entries live) has_packet in
        omega (arith, less, length-keys_of (finite.entries live), len-entries live, length-map (arrivals_in w.log) unit)
