-- Sections of redirects: where they lead a flow's target, and that those which don't take the flow from it are passed over.
use Rattle.std.proofs.Common.{◌≡◌, ℕ, zero, suc, ◌<◌, ◌≤◌, true, false, cond, ◌&&◌, List, [], ◌∷◌}
use Rattle.std.proofs.Common.{◌++◌, length, set, get_or, drop, Some, refl, ap, sym, ◌∙◌, arith}
use Rattle.std.specs.Prelude.{All, flat_map, slice_get}
use Rattle.std.proofs.lemmas.List.Elements.{All-head, All-tail}
use Rattle.std.proofs.lemmas.List.Sums.{fold-append}
use Rattle.std.proofs.lemmas.List.{append_assoc, append-nil}
use Rattle.flow_filter.specs.declared.flow.Flow.{Flow}
use Rattle.flow_filter.specs.Filter.{IsFlow, matches}
use Rattle.flow_filter.specs.Flow.{flow_eq}
use Rattle.switch_rules.specs.declared.target.Target.{Target}
use Rattle.switch_rules.specs.Masks.{mask_of, values_of, masked}
use Rattle.switch_rules.specs.Rules.{Redirect, redirected_target, takes, target_after, target_eq}
use Rattle.switch_rules.specs.Sections.{IsAlike, target_after_sections, target_of_matched}
use Rattle.switch_rules.proofs.MaskLemmas.{matches-masked}

-- redirects that don't take the flow from its target leave it there
pub target_stays : (flow : Flow) (target : Target) (redirects : List Redirect) → All (λ r. takes r flow target ≡ false) redirects
    → target_after redirects flow target ≡ target
target_stays flow target [] none = refl
target_stays flow target (r ∷ redirects) none =
    ap (λ b. target_after redirects flow (cond b r.to target)) (All-head (λ x. takes x flow target ≡ false) r redirects none)
    ∙ target_stays flow target redirects (All-tail (λ x. takes x flow target ≡ false) r redirects none)

pub alike_flips : (one other : Redirect) → IsAlike one other → IsAlike other one
alike_flips one other alike = record { mask = sym alike.mask; values = sym alike.values }

-- filters that say the same of the same fields match the same flows
alike_matches : (flow : Flow) → IsFlow flow → (one other : Redirect) → IsAlike one other → matches other.filter flow ≡ matches one.filter flow
alike_matches flow flows one other alike =
    matches-masked other.filter flow flows ∙ ap (λ k. flow_eq k (masked (mask_of other.filter) flow)) alike.values
    ∙ ap (λ m. flow_eq (values_of one.filter) (masked m flow)) alike.mask ∙ sym (matches-masked one.filter flow flows)

-- a flow that the filters match
pub after_matched : (flow : Flow) → IsFlow flow → (one : Redirect) (redirects : List Redirect) → All (IsAlike one) redirects → matches one.filter flow ≡ true
    → (target : Target) → target_of_matched redirects target ≡ target_after redirects flow target
after_matched flow flows one [] alike on target = refl
after_matched flow flows one (r ∷ redirects) alike on target =
    after_matched flow flows one redirects (All-tail (IsAlike one) r redirects alike) on (cond (target_eq target r.from) r.to target)
    ∙ ap (λ b. target_after redirects flow (cond (b && target_eq target r.from) r.to target))
    (sym (alike_matches flow flows one r (All-head (IsAlike one) r redirects alike) ∙ on))

-- one that they don't match
pub after_unmatched : (flow : Flow) → IsFlow flow → (one : Redirect) (redirects : List Redirect) → All (IsAlike one) redirects → matches one.filter flow ≡ false
    → (target : Target) → target_after redirects flow target ≡ target
after_unmatched flow flows one [] alike off target = refl
after_unmatched flow flows one (r ∷ redirects) alike off target =
    ap (λ b. target_after redirects flow (cond (b && target_eq target r.from) r.to target))
    (alike_matches flow flows one r (All-head (IsAlike one) r redirects alike) ∙ off)
    ∙ after_unmatched flow flows one redirects (All-tail (IsAlike one) r redirects alike) off target

pub after_one : (flow : Flow) (r : Redirect) (rest : List Redirect) (before : Target) → length rest ≡ 0
    → redirected_target r flow before ≡ target_after (r ∷ rest) flow before
after_one flow r [] before none = refl
after_one flow r (x ∷ rest) before none = absurd (omega (arith, none))

-- the sections lead a flow's target to where their redirects do
pub after_sections : (flow : Flow) (sections : List (List Redirect)) (before : Target)
    → target_after_sections sections flow before ≡ target_after (flat_map (λ s. s) sections) flow before
after_sections flow [] before = refl
after_sections flow (section ∷ sections) before =
    after_sections flow sections (target_after section flow before)
    ∙ sym (fold-append (λ target r. redirected_target r flow target) before section (flat_map (λ s. s) sections))

-- sections between two places that don't take the flow from its target are passed over
pub passed_over : (flow : Flow) (target : Target) (from to : ℕ) (sections : List (List Redirect)) → from ≤ to
    → ((i : ℕ) (section : List Redirect) → from ≤ i → i < to → slice_get sections i ≡ Some section → All (λ r. takes r flow target ≡ false) section)
    → target_after_sections (drop to sections) flow target ≡ target_after_sections (drop from sections) flow target
passed_over flow target zero zero sections order none = refl
passed_over flow target (suc from) zero sections order none = absurd (omega (arith, order))
passed_over flow target zero (suc to) [] order none = refl
passed_over flow target (suc from) (suc to) [] order none = refl
passed_over flow target zero (suc to) (section ∷ sections) order none =
    passed_over flow target zero to sections (omega arith) (λ i x later within at. none (suc i) x (omega arith) (omega (arith, within)) at)
    ∙ sym (ap (target_after_sections sections flow) (target_stays flow target section (none zero section (omega arith) (omega arith) refl)))
passed_over flow target (suc from) (suc to) (section ∷ sections) order none =
    passed_over flow target from to sections (omega (arith, order)) (λ i x later within at. none (suc i) x (omega (arith, later)) (omega (arith, within)) at)

-- one more redirect, in a section of its own or in the last
pub new_section : (sections : List (List Redirect)) (r : Redirect) → flat_map (λ s. s) (sections ++ (r ∷ []) ∷ []) ≡ flat_map (λ s. s) sections ++ r ∷ []
new_section [] r = refl
new_section (section ∷ sections) r = ap (λ xs. section ++ xs) (new_section sections r) ∙ sym (append_assoc section (flat_map (λ s. s) sections) (r ∷ []))

pub last_section : (sections : List (List Redirect)) (at : ℕ) (last : List Redirect) (r : Redirect) → at < length sections → length sections ≤ suc at
    → last ≡ get_or sections at last → flat_map (λ s. s) (set sections at (last ++ r ∷ [])) ≡ flat_map (λ s. s) sections ++ r ∷ []
last_section [] at last r within end is = absurd (omega (arith, within))
last_section (section ∷ []) zero last r within end is =
    append-nil (last ++ r ∷ []) ∙ ap (λ s. s ++ r ∷ []) is ∙ ap (λ s. s ++ r ∷ []) (sym (append-nil section))
last_section (section ∷ next ∷ sections) zero last r within end is = absurd (omega (arith, end))
last_section (section ∷ sections) (suc at) last r within end is =
    ap (λ xs. section ++ xs) (last_section sections at last r (omega (arith, within)) (omega (arith, end)) is)
    ∙ sym (append_assoc section (flat_map (λ s. s) sections) (r ∷ []))
