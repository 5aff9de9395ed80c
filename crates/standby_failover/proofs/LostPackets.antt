-- Which packets are lost, as the log goes on: those of an affected unit that come when the record that stands by has no more to be seen.
use Rattle.standby_failover.proofs.Words.{◌≡◌, ℕ, zero, suc, ◌<◌, ◌≤◌, Bool, true, false, Option, Some, None, List, [], ◌∷◌, ◌++◌, take, drop, length, filter}
use Rattle.standby_failover.proofs.Words.{append-nil, refl, sym, ap, ◌∙◌, subst, arith, if◌then◌else◌, ◌&&◌, get-empty, nat_tests, true≢false, take_all}
use Rattle.standby_failover.proofs.Words.{filter-append, FunctionLaws, Semantics, kept_after, packets_in, unit_cmp, Records, same_unit, same_unit_equiv}
use Rattle.standby_failover.proofs.Words.{same_unit-true, fold, is_of, packet_numbered, unit_in, Failover, record_kept, numbers_done, processed_of}
use Rattle.standby_failover.proofs.Words.{reflected_by, standing, is_affected, is_in, is_lost, IsLeft, has_seen_more}
use Rattle.std.proofs.Common.{length-append}
use Rattle.std.specs.Prelude.{nat_lt}
use Rattle.std.specs.FinMap as finite
use Rattle.std.proofs.lemmas.List.{take-append-le}
use Rattle.std.specs.Cmp.{nat_cmp_is}
use Rattle.std.specs.Cmp.Lexicographic.{slice_cmp}
use Rattle.std.specs.Ordering.{nat_cmp, is_gt, ordering_then}
use Rattle.std.specs.declared.cmp.Ordering.{Ordering}
use Rattle.std.specs.declared.cmp.Ordering.TheVariants.{Greater}
use Rattle.nf_function.specs.declared.unit.Unit as units
use Rattle.nf_function.specs.Records.{is_newer}
use Rattle.nf_function.proofs.RecordOrder.{newer_is_order}
use Rattle.standby_failover.proofs.ListLemmas.{IsOnce, after_first, among, once_those}
use Rattle.standby_failover.proofs.Reflected.{of_itself, processed_those, once_done, room, counts}

module _ {R : Type 0} (f : Semantics R) where
  abbrev by_packets : R → R → Ordering → Bool
  by_packets a b o = is_gt (ordering_then o (slice_cmp nat_cmp (f.body_of a) (f.body_of b)))

  -- a record of more packets is newer
  more_newer : (a b : R) → f.packets_of b < f.packets_of a → is_newer f a b ≡ true
  more_newer a b more = sym (ap (by_packets a b) (nat_cmp_is (f.packets_of a) (f.packets_of b) Greater more))

  sees_more : (standing again : Option R) → packets_in f again < packets_in f standing → has_seen_more f standing again ≡ true
  sees_more None again more = absurd (omega (arith, more))
  sees_more (Some s) None more = refl
  sees_more (Some s) (Some a) more = more_newer s a more

  sees_none : FunctionLaws f → (o : Option R) → has_seen_more f o o ≡ false
  sees_none laws None = refl
  sees_none laws (Some s) = (newer_is_order f laws).irreflexive s

-- what holds after the first packets that were processed: the records that are made again, and the lost packets so far
pub record IsUpTo {F R : Type 0} (x : Failover F R) (before : List ℕ) (again : Records R) (order : List ℕ) : Type 0 where
  pub again_is : (u : units.Unit) → is_affected x u ≡ true → finite.get again u
      ≡ record_kept x (take (reflected_by x u) (filter (is_of x.job.function x.job.config x.job.items u) before))
  pub order_is : order ≡ filter (is_lost x) before

module _ {F R : Type 0} (x : Failover F R) (laws : FunctionLaws x.job.function) (left : IsLeft x) where
  abbrev f : Semantics R
  f = x.job.function

  abbrev of_unit : units.Unit → ℕ → Bool
  of_unit u = is_of x.job.function x.job.config x.job.items u

  fold-append : (r : Option R) (xs ys : List ℕ) → fold f x.job.config x.job.items r (xs ++ ys)
      ≡ fold f x.job.config x.job.items (fold f x.job.config x.job.items r xs) ys
  fold-append r [] ys = refl
  fold-append r (p ∷ xs) ys = fold-append (kept_after f x.job.config.site r (packet_numbered x.job.items p)) xs ys

  -- at a packet that was processed
  module _ (before rest : List ℕ) (p : ℕ) (whole : before ++ p ∷ rest ≡ numbers_done x.world.log) where
    abbrev u : units.Unit
    u = unit_in x.job p

    abbrev ws : List ℕ
    ws = filter (of_unit u) before

    abbrev ws_after : List ℕ
    ws_after = filter (of_unit u) rest

    splits : processed_of x u ≡ ws ++ p ∷ ws_after
    splits =
        processed_those x u ∙ ap (filter (of_unit u)) (sym whole) ∙ filter-append (of_unit u) before (p ∷ rest)
        ∙ ap (λ b. ws ++ (if b then p ∷ ws_after else ws_after)) (of_itself x p)

    once_here : IsOnce (ws ++ p ∷ ws_after)
    once_here = subst IsOnce (sym (processed_those x u) ∙ splits) (once_those (of_unit u) (numbers_done x.world.log) (once_done x left.is_input left.promises))

    lost_is : (b : Bool) → is_affected x u ≡ true → is_in p (drop (reflected_by x u) (ws ++ p ∷ ws_after)) ≡ b → is_lost x p ≡ b
    lost_is b on e = ap (λ a. a && is_in p (drop (reflected_by x u) (processed_of x u))) on ∙ ap (λ qs. is_in p (drop (reflected_by x u) qs)) splits ∙ e

    lost_later : is_affected x u ≡ true → reflected_by x u ≤ length ws → is_lost x p ≡ true
    lost_later on few = lost_is true on (after_first (reflected_by x u) p ws ws_after (once_here p) few)

    not_lost : is_affected x u ≡ true → length ws < reflected_by x u → is_lost x p ≡ false
    not_lost on more = lost_is false on (among (reflected_by x u) p ws ws_after (once_here p) more)

    not_affected : is_affected x u ≡ false → is_lost x p ≡ false
    not_affected off = ap (λ a. a && is_in p (drop (reflected_by x u) (processed_of x u))) off

    enough : length ws ≤ length (processed_of x u)
    enough = let long = ap length splits in let both = length-append ws (p ∷ ws_after) in omega (arith, long, both)

    -- as long as fewer were processed than it has seen, the record that stands by has seen more
    seen_more : length ws < reflected_by x u → has_seen_more f (standing x u) (record_kept x (take (reflected_by x u) ws)) ≡ true
    seen_more more =
        let all : take (reflected_by x u) ws ≡ ws = take_all (reflected_by x u) ws (omega (arith, more)) in
        let counted = counts x left.is_input left.promises laws ws (omega (arith, room x left.is_input left.promises u, enough)) in
        ap (λ qs. has_seen_more f (standing x u) (record_kept x qs)) all ∙ sees_more f (standing x u) (record_kept x ws) (omega (arith, counted, more))

    seen_all : reflected_by x u ≤ length ws → has_seen_more f (standing x u) (record_kept x (take (reflected_by x u) ws)) ≡ false
    seen_all few =
        let first : take (reflected_by x u) (processed_of x u) ≡ take (reflected_by x u) ws = ap (take (reflected_by x u)) splits
        ∙ take-append-le (reflected_by x u) ws (p ∷ ws_after) few in
        let same : record_kept x (take (reflected_by x u) ws) ≡ standing x u = ap (record_kept x) (sym first) ∙ (left.reflects u).is.folds in
        ap (has_seen_more f (standing x u)) same ∙ sees_none f laws (standing x u)

    -- what was processed of a unit, with this packet
    other_unit : (v : units.Unit) → same_unit v u ≡ false → filter (of_unit v) (before ++ p ∷ []) ≡ filter (of_unit v) before
    other_unit v off =
        filter-append (of_unit v) before (p ∷ [])
        ∙ ap (λ b. filter (of_unit v) before ++ (if b then p ∷ [] else [])) (same_unit_equiv.symm u v ∙ off)
        ∙ append-nil (filter (of_unit v) before)

    own_unit : filter (of_unit u) (before ++ p ∷ []) ≡ ws ++ p ∷ []
    own_unit = filter-append (of_unit u) before (p ∷ []) ∙ ap (λ b. ws ++ (if b then p ∷ [] else [])) (of_itself x p)

    lost_next : (b : Bool) → is_lost x p ≡ b → filter (is_lost x) (before ++ p ∷ []) ≡ filter (is_lost x) before ++ (if b then p ∷ [] else [])
    lost_next b e = filter-append (is_lost x) before (p ∷ []) ∙ ap (λ t. filter (is_lost x) before ++ (if t then p ∷ [] else [])) e

    module _ (again : Records R) (order : List ℕ) (h : IsUpTo x before again order) where
      kept_out : is_lost x p ≡ false → order ≡ filter (is_lost x) (before ++ p ∷ [])
      kept_out off = h.order_is ∙ sym (lost_next false off ∙ append-nil (filter (is_lost x) before))

      -- one of a unit that isn't affected
      pub next_other : is_affected x u ≡ false → IsUpTo x (before ++ p ∷ []) again order
      next_other off = record { again_is = again_is; order_is = kept_out (not_affected off) }
        where
          again_is : (v : units.Unit) → is_affected x v ≡ true
              → finite.get again v ≡ record_kept x (take (reflected_by x v) (filter (of_unit v) (before ++ p ∷ [])))
          again_is v on = by_unit (same_unit v u) refl
            where
              by_unit : (b : Bool) → same_unit v u ≡ b → finite.get again v ≡ record_kept x (take (reflected_by x v) (filter (of_unit v) (before ++ p ∷ [])))
              by_unit true e = absurd (true≢false (sym on ∙ ap (is_affected x) (same_unit-true v u e) ∙ off))
              by_unit false e = h.again_is v on ∙ ap (λ qs. record_kept x (take (reflected_by x v) qs)) (sym (other_unit v e))

      module _ (on : is_affected x u ≡ true) where
        again_here : finite.get again u ≡ record_kept x (take (reflected_by x u) ws)
        again_here = h.again_is u on

        more_is : (b : Bool) → has_seen_more f (standing x u) (finite.get again u) ≡ b
            → has_seen_more f (standing x u) (record_kept x (take (reflected_by x u) ws)) ≡ b
        more_is b e = ap (has_seen_more f (standing x u)) (sym again_here) ∙ e

        -- so the test tells how many were processed
        was_more : has_seen_more f (standing x u) (finite.get again u) ≡ true → length ws < reflected_by x u
        was_more e = by_length (nat_lt (length ws) (reflected_by x u)) refl
          where
            by_length : (b : Bool) → nat_lt (length ws) (reflected_by x u) ≡ b → length ws < reflected_by x u
            by_length true t = grind (arith, nat_tests, t)
            by_length false t =
                let few : reflected_by x u ≤ length ws = grind (arith, nat_tests, t) in absurd (true≢false (sym (more_is true e) ∙ seen_all few))

        were_all : has_seen_more f (standing x u) (finite.get again u) ≡ false → reflected_by x u ≤ length ws
        were_all e = by_length (nat_lt (length ws) (reflected_by x u)) refl
          where
            by_length : (b : Bool) → nat_lt (length ws) (reflected_by x u) ≡ b → reflected_by x u ≤ length ws
            by_length true t = let more : length ws < reflected_by x u = grind (arith, nat_tests, t) in absurd (true≢false (sym (seen_more more)
                ∙ more_is false e))
            by_length false t = grind (arith, nat_tests, t)

        -- one that the record hasn't seen
        pub next_lost : has_seen_more f (standing x u) (finite.get again u) ≡ false → IsUpTo x (before ++ p ∷ []) again (order ++ p ∷ [])
        next_lost e = record { again_is = again_is; order_is = ap (λ qs. qs ++ p ∷ []) h.order_is ∙ sym (lost_next true (lost_later on (were_all e))) }
          where
            again_is : (v : units.Unit) → is_affected x v ≡ true
                → finite.get again v ≡ record_kept x (take (reflected_by x v) (filter (of_unit v) (before ++ p ∷ [])))
            again_is v at = by_unit (same_unit v u) refl
              where
                own : finite.get again u ≡ record_kept x (take (reflected_by x u) (filter (of_unit u) (before ++ p ∷ [])))
                own = again_here ∙ ap (record_kept x) (sym (ap (take (reflected_by x u)) own_unit ∙ take-append-le (reflected_by x u) ws (p ∷ []) (were_all e)))

                by_unit : (b : Bool) → same_unit v u ≡ b → finite.get again v ≡ record_kept x (take (reflected_by x v) (filter (of_unit v) (before ++ p ∷ [])))
                by_unit true t = subst (λ y. finite.get again y ≡ record_kept x (take (reflected_by x y) (filter (of_unit y) (before ++ p ∷ []))))
                    (sym (same_unit-true v u t)) own
                by_unit false t = h.again_is v at ∙ ap (λ qs. record_kept x (take (reflected_by x v) qs)) (sym (other_unit v t))

        -- one that it has seen, which makes the record again
        pub next_seen : has_seen_more f (standing x u) (finite.get again u) ≡ true → (after : Records R)
            → ((v : units.Unit) → finite.get after v ≡
            (if same_unit v u then kept_after f x.job.config.site (finite.get again v) (packet_numbered x.job.items p) else finite.get again v))
            → IsUpTo x (before ++ p ∷ []) after order
        next_seen e after stepped = record { again_is = again_is; order_is = kept_out (not_lost on (was_more e)) }
          where
            more : length ws < reflected_by x u
            more = was_more e

            long : length (ws ++ p ∷ []) ≤ reflected_by x u
            long = let both = length-append ws (p ∷ []) in omega (arith, both, more)

            first : take (reflected_by x u) ws ≡ ws
            first = take_all (reflected_by x u) ws (omega (arith, more))

            all : take (reflected_by x u) (filter (of_unit u) (before ++ p ∷ [])) ≡ ws ++ p ∷ []
            all = ap (take (reflected_by x u)) own_unit ∙ take_all (reflected_by x u) (ws ++ p ∷ []) long

            own : finite.get after u ≡ record_kept x (take (reflected_by x u) (filter (of_unit u) (before ++ p ∷ [])))
            own =
                stepped u
                ∙ ap (λ b. if b then kept_after f x.job.config.site (finite.get again u) (packet_numbered x.job.items p) else finite.get again u)
                (same_unit_equiv.refl u)
                ∙ ap (λ r. kept_after f x.job.config.site r (packet_numbered x.job.items p)) (again_here ∙ ap (record_kept x) first)
                ∙ sym (fold-append None ws (p ∷ []))
                ∙ ap (record_kept x) (sym all)

            again_is : (v : units.Unit) → is_affected x v ≡ true
                → finite.get after v ≡ record_kept x (take (reflected_by x v) (filter (of_unit v) (before ++ p ∷ [])))
            again_is v at = by_unit (same_unit v u) refl
              where
                by_unit : (b : Bool) → same_unit v u ≡ b → finite.get after v ≡ record_kept x (take (reflected_by x v) (filter (of_unit v) (before ++ p ∷ [])))
                by_unit true t = subst (λ y. finite.get after y ≡ record_kept x (take (reflected_by x y) (filter (of_unit y) (before ++ p ∷ []))))
                    (sym (same_unit-true v u t)) own
                by_unit false t =
                    stepped v
                    ∙ ap (λ b. if b then kept_after f x.job.config.site (finite.get again v) (packet_numbered x.job.items p) else finite.get again v) t
                    ∙ h.again_is v at ∙ ap (λ qs. record_kept x (take (reflected_by x v) qs)) (sym (other_unit v t))

  -- at the beginning
  abbrev no_records : Records R
  no_records = finite.empty

  kept_none : (v : units.Unit) (k : ℕ) → finite.get no_records v ≡ record_kept x (take k [])
  kept_none v zero = get-empty unit_cmp v
  kept_none v (suc k) = get-empty unit_cmp v

  pub up_to_none : IsUpTo x [] no_records []
  up_to_none = record { again_is = λ v on. kept_none v (reflected_by x v); order_is = refl }
