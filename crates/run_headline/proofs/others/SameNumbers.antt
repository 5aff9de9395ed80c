-- Numbers that stand as often in one list as in another stand there in another order.
use Rattle.run_headline.proofs.Words.{◌≡◌, ℕ, ◌+◌, ◌≤◌, true, false, List, [], ◌∷◌, ◌++◌, sym, ap, subst, arith, refl, IsPermutation, if◌then◌else◌, ◌==◌}
use Rattle.run_headline.proofs.Words.{Decides-eqb, times, none_in, times-append, same_number}
use Rattle.std.proofs.lemmas.List.Sorted.{IsPermutation-cons, IsPermutation-middle, IsPermutation-refl, IsPermutation-sym, IsPermutation-trans}

-- where a number stands
record Stands (n : ℕ) (ns : List ℕ) : Type 0 where
  front : List ℕ
  back : List ℕ
  whole : ns ≡ front ++ n ∷ back

stands : (n : ℕ) (ns : List ℕ) → 1 ≤ times n ns → Stands n ns
stands n [] some = absurd (omega (arith, some))
stands n (m ∷ ns) some = elim (n == m) as (λ b. (n == m) ≡ b → Stands n (m ∷ ns)) [
  | true ↦ λ is. record { front = []; back = ns; whole = ap (λ k. k ∷ ns) (sym ((Decides-eqb n m).0 is)) }
  | false ↦ λ off.
      let rest : 0 + times n ns ≡ times n (m ∷ ns) = rw off refl in
      let more = stands n ns (omega (arith, some, rest)) in
      record { front = m ∷ more.front; back = more.back; whole = ap (λ l. m ∷ l) more.whole }
] refl

pub another_order : (ns ms : List ℕ) → ((p : ℕ) → times p ns ≡ times p ms) → IsPermutation ns ms
another_order [] ms same = subst (IsPermutation []) (sym (none_in ms (λ p. sym (same p)))) (IsPermutation-refl [])
another_order (n ∷ ns) ms same =
    let own = ap {B = ℕ} (λ b. if b then 1 else 0) (same_number n) in
    let at = stands n ms (omega (arith, own, same n)) in
    let others = at.front ++ at.back in
    let fewer : (p : ℕ) → times p ns ≡ times p others = (λ p.
    omega (arith, same p, ap (times p) at.whole, times-append p at.front (n ∷ at.back), times-append p at.front at.back)) in
    subst (IsPermutation (n ∷ ns)) (sym at.whole)
    (IsPermutation-trans (n ∷ ns) (n ∷ others) (at.front ++ n ∷ at.back) (IsPermutation-cons n ns others (another_order ns others fewer))
    (IsPermutation-sym (at.front ++ n ∷ at.back) (n ∷ others) (IsPermutation-middle at.front n at.back)))
