-- Of two fronts of what was processed of a unit the newer record is that of the longer, and equal records are those of one front.
use Rattle.nf_net.proofs.Words.{◌≡◌, ℕ, ◌+◌, ◌<◌, ◌≤◌, Bool, true, false, Option, Some, None, List, [], ◌∷◌, ◌++◌, length, length-append, append_assoc}
use Rattle.nf_net.proofs.Words.{append-nil, refl, sym, ap, ◌∙◌, arith, if◌then◌else◌, nat_le, nat_cmp, Ordering, Less, Greater, nat_tests, newest, Setting}
use Rattle.nf_net.proofs.Words.{Semantics, either, packet_numbered, most_counted, IsFront, all_fit}
use Rattle.std.specs.Cmp.{nat_cmp_is}
use Rattle.std.specs.Cmp.Lexicographic.{slice_cmp}
use Rattle.std.specs.Ordering.{is_gt, ordering_then}
use Rattle.std.proofs.Math.Nat.{min-eq_left}
use Rattle.nf_function.specs.Records.{is_newer}
use Rattle.nf_function.specs.Semantics.{packets_in}
use Rattle.net_world.specs.Fold.{fold}

-- Fronts.
pub front_same : (xs : List ℕ) → IsFront xs xs
front_same xs = record { rest = []; whole = append-nil xs }

pub front_trans : (xs ys zs : List ℕ) → IsFront xs ys → IsFront ys zs → IsFront xs zs
front_trans xs ys zs h g = record { rest = h.rest ++ g.rest; whole = sym (append_assoc xs h.rest g.rest) ∙ ap (λ ws. ws ++ g.rest) h.whole ∙ g.whole }

-- as a list goes on
pub front_more : (xs ys more : List ℕ) → IsFront xs ys → IsFront xs (ys ++ more)
front_more xs ys more h = front_trans xs ys (ys ++ more) h (record { rest = more; whole = refl })

pub front_length : (xs ys : List ℕ) → IsFront xs ys → length xs ≤ length ys
front_length xs ys h = let long = ap length h.whole in let both = length-append xs h.rest in omega (arith, long, both)

-- of two fronts of one list the shorter is a front of the longer
shorter : (xs ys all : List ℕ) → IsFront xs all → IsFront ys all → length xs ≤ length ys → IsFront xs ys
shorter [] ys all h g short = record { rest = ys; whole = refl }
shorter (x ∷ xs) [] all h g short = absurd (omega (arith, short))
shorter (x ∷ xs) (y ∷ ys) all h g short =
    let both : x ∷ (xs ++ h.rest) ≡ y ∷ (ys ++ g.rest) = h.whole ∙ sym g.whole in
    let heads : x ≡ y = cc in
    let tails : xs ++ h.rest ≡ ys ++ g.rest = cc in
    let more = shorter xs ys (xs ++ h.rest) (record { rest = h.rest; whole = refl }) (record { rest = g.rest; whole = sym tails }) (omega (arith, short)) in
    record { rest = more.rest; whole = ap (λ z. z ∷ (xs ++ more.rest)) heads ∙ ap (λ zs. y ∷ zs) more.whole }

whole_front : (xs rest ys : List ℕ) → xs ++ rest ≡ ys → length xs ≡ length ys → xs ≡ ys
whole_front xs [] ys whole same = sym (append-nil xs) ∙ whole
whole_front xs (z ∷ zs) ys whole same = let long = ap length whole in let both = length-append xs (z ∷ zs) in absurd (omega (arith, long, both, same))

-- two fronts of one length are one
one_length : (xs ys all : List ℕ) → IsFront xs all → IsFront ys all → length xs ≡ length ys → xs ≡ ys
one_length xs ys all h g same = let more = shorter xs ys all h g (omega (arith, same)) in whole_front xs more.rest ys more.whole same

module _ {R : Type 0} (f : Semantics R) where
  -- whether the first record is newer, by the order of their packets
  abbrev by_packets : R → R → Ordering → Bool
  by_packets a b o = is_gt (ordering_then o (slice_cmp nat_cmp (f.body_of a) (f.body_of b)))

  -- a record of more packets is newer, and one of fewer isn't
  more_newer : (a b : R) → f.packets_of b < f.packets_of a → is_newer f a b ≡ true
  more_newer a b more = sym (ap (by_packets a b) (nat_cmp_is (f.packets_of a) (f.packets_of b) Greater more))

  fewer_older : (a b : R) → f.packets_of a < f.packets_of b → is_newer f a b ≡ false
  fewer_older a b fewer = sym (ap (by_packets a b) (nat_cmp_is (f.packets_of a) (f.packets_of b) Less fewer))

  -- the newer of what is held and what comes, where what comes has no fewer packets
  coming_newest : (held coming : Option R) → packets_in f held ≤ packets_in f coming → (packets_in f held ≡ packets_in f coming → held ≡ coming)
      → either (newest f) held coming ≡ coming
  coming_newest None None few same = refl
  coming_newest None (Some b) few same = refl
  coming_newest (Some a) None few same = same (omega (arith, few))
  coming_newest (Some a) (Some b) few same = by_count (nat_le (f.packets_of b) (f.packets_of a)) refl
    where
      by_count : (t : Bool) → nat_le (f.packets_of b) (f.packets_of a) ≡ t → either (newest f) (Some a) (Some b) ≡ Some b
      by_count true on =
          let least : f.packets_of b ≤ f.packets_of a = grind (arith, nat_tests, on) in
          let both : Some a ≡ Some b = same (omega (arith, few, least)) in
          let one : a ≡ b = cc in
          rw one (elim (is_newer f b b) as (λ t. Some (if t then b else b) ≡ Some b) [ true ↦ refl | false ↦ refl ])
      by_count false off = let older = fewer_older a b (grind (arith, nat_tests, off)) in rw older refl

  -- and where it has fewer
  held_newest : (held coming : Option R) → packets_in f coming < packets_in f held → either (newest f) held coming ≡ held
  held_newest None coming more = absurd (omega (arith, more))
  held_newest (Some a) None more = refl
  held_newest (Some a) (Some b) more = let newer = more_newer a b more in rw newer refl

module _ {F R : Type 0} (setting : Setting F R) where
  open setting use {function as f, laws, config as c, items}

  abbrev kept_of : List ℕ → Option R
  kept_of ps = fold f c items None ps

  -- a fold counts its packets
  fold_counts : (kept : Option R) (ps : List ℕ) → packets_in f kept + length ps ≤ most_counted
      → packets_in f (fold f c items kept ps) ≡ packets_in f kept + length ps
  fold_counts kept [] room = omega arith
  fold_counts kept (p ∷ ps) room =
      let next : Option R = Some (f.stepped c.site kept (packet_numbered items p)).kept in
      let one : packets_in f next ≡ packets_in f kept + 1 = laws.counts c.site kept (packet_numbered items p) ∙ min-eq_left (omega (arith, room)) in
      rw ((all_fit setting p).transport) (omega (arith, fold_counts next ps (omega (arith, room, one)), one))

  counts : (ps : List ℕ) → length ps ≤ most_counted → packets_in f (kept_of ps) ≡ length ps
  counts ps room = let all = fold_counts None ps (omega (arith, room)) in omega (arith, all)

  module _ (all : List ℕ) (room : length all ≤ most_counted) where
    counts_front : (xs : List ℕ) → IsFront xs all → packets_in f (kept_of xs) ≡ length xs
    counts_front xs h = counts xs (let short = front_length xs all h in omega (arith, short, room))

    -- equal records are those of one front
    pub one_front : (xs ys : List ℕ) → IsFront xs all → IsFront ys all → kept_of xs ≡ kept_of ys → xs ≡ ys
    one_front xs ys h g same = one_length xs ys all h g (sym (counts_front xs h) ∙ ap (packets_in f) same ∙ counts_front ys g)

    -- the longer of two fronts
    pub record Longer (xs ys : List ℕ) : Type 0 where
      pub front : List ℕ
      pub is_front : IsFront front all
      pub behind : IsFront xs front
      pub since : IsFront ys front
      pub kept : either (newest f) (kept_of xs) (kept_of ys) ≡ kept_of front

    -- the newer of two records is that of the longer front
    pub longer : (xs ys : List ℕ) → IsFront xs all → IsFront ys all → Longer xs ys
    longer xs ys h g = by_length (nat_le (length xs) (length ys)) refl
      where
        a : packets_in f (kept_of xs) ≡ length xs
        a = counts_front xs h

        b : packets_in f (kept_of ys) ≡ length ys
        b = counts_front ys g

        by_length : (t : Bool) → nat_le (length xs) (length ys) ≡ t → Longer xs ys
        by_length true on =
            let short : length xs ≤ length ys = grind (arith, nat_tests, on) in
            record {
              front = ys;
              is_front = g;
              behind = shorter xs ys all h g short;
              since = front_same ys;
              kept = coming_newest f (kept_of xs) (kept_of ys) (omega (arith, a, b, short)) (λ same. ap kept_of (one_length xs ys all h g (sym a ∙ same ∙ b)));
            }
        by_length false off =
            let long : length ys < length xs = grind (arith, nat_tests, off) in
            record {
              front = xs;
              is_front = h;
              behind = front_same xs;
              since = shorter ys xs all g h (omega (arith, long));
              kept = held_newest f (kept_of xs) (kept_of ys) (omega (arith, a, b, long));
            }
