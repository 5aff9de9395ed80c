-- What a statement says of its words: a share's list has a comma.
use Rattle.op_script.proofs.Words.{◌≡◌, ℕ, Bool, true, false, ◌&&◌, cond, List, [], ◌∷◌, Option, None, Some, is_some, option_map, refl, subst, codes, bytes_eq}
use Rattle.op_script.proofs.Words.{split_once, Word, Event, Sharing, Statement, Happening, statement_of, event_of}
use Rattle.std.specs.Prelude.{option_and_then}
use Rattle.basics.specs.Parsing.{parse_number}
use Rattle.op_script.specs.Statements.{routing, happening}
use Rattle.op_script.specs.WordSteps.{is_comment}

-- a share's list has a comma
abbrev pub IsEvent : Event → Type 0
IsEvent (Sharing list filter) = is_some (split_once 44 list) ≡ true
IsEvent event = Unit {0}

abbrev pub IsStatement : Statement → Type 0
IsStatement (Happening at event) = IsEvent event
IsStatement statement = Unit {0}

-- what is there has a property
abbrev pub OfSome : {A : Type 0} → (A → Type 0) → Option A → Type 0
OfSome P None = Unit {0}
OfSome P (Some x) = P x

either : {A : Type 0} (P : A → Type 0) (test : Bool) (a b : Option A) → OfSome P a → OfSome P b → OfSome P (cond test a b)
either P true a b in_a in_b = in_a
either P false a b in_a in_b = in_b

listed : (list filter : Word) (verb how comma : Bool) → is_some (split_once 44 list) ≡ comma
    → OfSome IsEvent (cond (verb && how && comma) (Some (Sharing list filter)) None)
listed list filter true true true is = is
listed list filter verb how comma is = tt

event_right : (verb : Word) (ws : List Word) → OfSome IsEvent (event_of verb ws)
unfolding event_of
event_right verb [] = either IsEvent (bytes_eq verb (codes "settle")) _ _ tt tt
event_right verb (a ∷ b ∷ c ∷ []) = either IsEvent (bytes_eq verb (codes "copy")) _ _ tt
    (listed a b (bytes_eq verb (codes "share")) (bytes_eq c (codes "strict")) (is_some (split_once 44 a)) refl)
event_right verb (a ∷ b ∷ c ∷ d ∷ []) = either IsEvent (bytes_eq verb (codes "move") && bytes_eq d (codes "order")) _ _ tt
    (either IsEvent (bytes_eq verb (codes "move") && bytes_eq d (codes "lossfree")) _ _ tt tt)
event_right verb ws = tt

routing_right : (ws : List Word) → OfSome IsStatement (routing ws)
routing_right (a ∷ b ∷ []) = tt
routing_right ws = tt

at_right : (at : Option ℕ) (event : Option Event) → OfSome IsEvent event → OfSome IsStatement (option_and_then (λ k. option_map (Happening k) event) at)
at_right None event right = tt
at_right (Some k) None right = tt
at_right (Some k) (Some event) right = right

happening_right : (ws : List Word) → OfSome IsStatement (happening ws)
happening_right (at ∷ verb ∷ more) = at_right (parse_number 4294967295 at) (event_of verb more) (event_right verb more)
happening_right ws = tt

statement_of_right : (ws : List Word) → OfSome IsStatement (statement_of ws)
unfolding statement_of
statement_of_right [] = tt
statement_of_right (first ∷ more) = either IsStatement (is_comment first) _ _ tt (either IsStatement (bytes_eq first (codes "route")) _ _ (routing_right more)
    (either IsStatement (bytes_eq first (codes "at")) _ _ (happening_right more) tt))

pub statement_right : (ws : List Word) (statement : Statement) → statement_of ws ≡ Some statement → IsStatement statement
statement_right ws statement is = subst (OfSome IsStatement) is (statement_of_right ws)
