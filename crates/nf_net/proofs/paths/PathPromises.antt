-- In every run what came of a unit is what was processed and what is under way, and nothing stands in two places.
use Rattle.nf_net.proofs.Words.{◌≡◌, ℕ, suc, ◌+◌, ◌<◌, ◌≤◌, Bool, true, false, List, [], ◌∷◌, ◌++◌, map, refl, sym, ap, ◌∙◌, subst, arith, if◌then◌else◌, ◌==◌}
use Rattle.nf_net.proofs.Words.{nat_tests, Decides-eqb, Msg, Note, Network, same_of, IsOrderedAs, exactly, not_both, WhereAll, Apart_from_shares, Under_share}
use Rattle.nf_net.proofs.Words.{Node, IsRising, arrivals_in, is_loose, IsFront, arrived_of, processed_of, in_flight_of, is_sys, Given, S, A, came_by}
use Rattle.nf_net.proofs.Words.{same_times, given, Unit, split, Setting}
use Rattle.net_world.specs.Input.{packets}
use Rattle.net_world.specs.Fold.{times}
use Rattle.net_world.proofs.NumberCounts.{times-append}
use Rattle.nf_net.proofs.RunWords.{seated, Reached, HomesTold}
use Rattle.nf_net.proofs.paths.SeatPaths as seats
use Rattle.nf_net.proofs.paths.SharedPaths as shares

-- no number stands twice where numbers rise
rising_above : (p least : ℕ) (ns : List ℕ) → IsRising least ns → p < least → times p ns ≡ 0
rising_above p least [] h low = refl
rising_above p least (n ∷ ns) h low =
    let least_n = h.0 in
    let off : (p == n) ≡ false = grind (arith, nat_tests, low, least_n) in
    rw (off, rising_above p (suc n) ns h.1 (omega (arith, low, least_n))) refl

pub rising_once : (p least : ℕ) (ns : List ℕ) → IsRising least ns → times p ns ≤ 1
rising_once p least [] h = omega arith
rising_once p least (n ∷ ns) h = split (p == n) (λ b. (if b then 1 else 0) + times p ns ≤ 1)
    (λ e. (let same : p ≡ n = (Decides-eqb p n).0 e in let rest = rising_above p (suc n) ns h.1 (omega (arith, same)) in omega (arith, rest)))
    (λ _. (let rest = rising_once p (suc n) ns h.1 in omega (arith, rest)))

pub came_once : {F R : Type 0} (setting : Setting F R) (w : Network (Node F R) Msg Note)
    → IsFront (arrivals_in w.log) (map (λ p. p.number) (packets setting.items)) → (p : ℕ) → times p (arrivals_in w.log) ≤ 1
came_once setting w in_turn p =
    let numbers = map (λ q. q.number) (packets setting.items) in
    let whole : times p (arrivals_in w.log ++ in_turn.rest) ≡ times p numbers = ap (times p) in_turn.whole in
    omega (arith, rising_once p 0 numbers setting.is_input.numbers, whole, times-append p (arrivals_in w.log) in_turn.rest)

module _ {F R : Type 0} (here : Reached F R) (in_turn : IsFront (arrivals_in here.w.log) (map (λ p. p.number) (packets here.setting.items)))
    (told : HomesTold here) (u : Unit) where
  open here use {setting, w, j}
  open setting use {function as f, config as c, items}

  abbrev g : Given
  g = given setting

  -- what was processed, and then what is under way, is what came: in order, if no plain move handed the unit on
  record Ordered : Type 0 where
    flag : Bool
    order : IsOrderedAs flag (processed_of f c items u w.log ++ in_flight_of f c items u w) (arrived_of f c items u w.log)
    flag_is : flag ≡ true → is_loose c items u w.log ≡ true

  ordered : Ordered
  ordered = by_where (j.shown_is.every.unit u)
    where
      by_where : WhereAll (S f g) (A f g) (is_sys f g.site g.packet) u j.world (came_by f g w.log u) → Ordered
      by_where (Apart_from_shares h none) =
          let k = seated here u h.is in
          record {
            flag = k.flag;
            order = subst (λ ps. IsOrderedAs k.flag ps (arrived_of f c items u w.log)) (sym (seats.all_is here in_turn u h.is h.untaken)) k.order;
            flag_is = k.flag_is;
          }
      by_where (Under_share x before b h o i) = record {
        flag = b;
        order = subst (λ ps. IsOrderedAs b ps (arrived_of f c items u w.log)) (sym (shares.all_is here told u x before (came_by f g w.log u).diverted h)) o;
        flag_is = i;
      }

  pub in_place : is_loose c items u w.log ≡ false → processed_of f c items u w.log ++ in_flight_of f c items u w ≡ arrived_of f c items u w.log
  in_place off = exactly ordered.flag (processed_of f c items u w.log ++ in_flight_of f c items u w) (arrived_of f c items u w.log)
      (not_both ordered.flag (is_loose c items u w.log) ordered.flag_is off) ordered.order

  pub each_in_place : (p : ℕ) → times p (processed_of f c items u w.log) + times p (in_flight_of f c items u w) ≡ times p (arrived_of f c items u w.log)
  each_in_place p =
      let same : times p (processed_of f c items u w.log ++ in_flight_of f c items u w) ≡ times p (arrived_of f c items u w.log) =
      sym (same_times p (processed_of f c items u w.log ++ in_flight_of f c items u w))
      ∙ same_of ordered.flag (processed_of f c items u w.log ++ in_flight_of f c items u w) (arrived_of f c items u w.log) ordered.order p
      ∙ same_times p (arrived_of f c items u w.log) in
      omega (arith, times-append p (processed_of f c items u w.log) (in_flight_of f c items u w), same)
