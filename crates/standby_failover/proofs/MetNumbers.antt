-- The numbers of packets that a loop over a log or a list has met so far: those of one place more.
use Rattle.standby_failover.proofs.Words.{◌≡◌, ℕ, ◌+◌, ◌<◌, Bool, true, false, List, [], ◌∷◌, ◌++◌, map, take, drop, get_or, length, filter, append-nil, refl}
use Rattle.standby_failover.proofs.Words.{sym, ap, ◌∙◌, if◌then◌else◌, map-append, take_more, take-append-drop, filter-append, Note, Output, arrivals_in}
use Rattle.standby_failover.proofs.Words.{dones_in, is_in, numbers_done}
use Rattle.std.proofs.lemmas.List.{drop_more}
use Rattle.nf_msgs.specs.declared.note.Note.TheVariants as note
use Rattle.net_world.proofs.LogLemmas.{arrived-append, done-append}
use Rattle.standby_failover.proofs.ListLemmas.{in_middle}

-- the notes up to a place, with one more
notes_more : (log : List Note) (i : ℕ) (n : Note) → i < length log → n ≡ get_or log i n → take (i + 1) log ≡ take i log ++ n ∷ []
notes_more log i n within here = take_more log i n within ∙ ap (λ v. take i log ++ v ∷ []) (sym here)

pub done_more : (log : List Note) (i : ℕ) (n : Note) → i < length log → n ≡ get_or log i n
    → numbers_done (take (i + 1) log) ≡ numbers_done (take i log) ++ numbers_done (n ∷ [])
done_more log i n within here =
    ap numbers_done (notes_more log i n within here) ∙ ap (map (λ d. d.number)) (done-append (take i log) (n ∷ []))
    ∙ map-append (λ d. d.number) (dones_in (take i log)) (dones_in (n ∷ []))

pub came_more : (log : List Note) (i : ℕ) (n : Note) → i < length log → n ≡ get_or log i n
    → arrivals_in (take (i + 1) log) ≡ arrivals_in (take i log) ++ arrivals_in (n ∷ [])
came_more log i n within here = ap arrivals_in (notes_more log i n within here) ∙ arrived-append (take i log) (n ∷ [])

-- those that came and are picked out, with one note more
pub picked_more : (l : ℕ → Bool) (log : List Note) (i : ℕ) (n : Note) → i < length log → n ≡ get_or log i n
    → filter l (arrivals_in (take (i + 1) log)) ≡ filter l (arrivals_in (take i log)) ++ filter l (arrivals_in (n ∷ []))
picked_more l log i n within here = ap (filter l) (came_more log i n within here) ∙ filter-append l (arrivals_in (take i log)) (arrivals_in (n ∷ []))

-- other notes tell of none
pub none_done : (n : Note) → ((number : ℕ) (instance : ℕ) (output : Output) → n ≡ note.Processed number instance output → ⊥) → numbers_done (n ∷ []) ≡ []
none_done (note.Processed number instance output) h = absurd (h number instance output refl)
none_done other h = refl

pub none_came : (n : Note) → ((number : ℕ) → n ≡ note.Arrived number → ⊥) → arrivals_in (n ∷ []) ≡ []
none_came (note.Arrived number) h = absurd (h number refl)
none_came other h = refl

-- a number that is picked out, or not
pub picked : (l : ℕ → Bool) (p : ℕ) (b : Bool) → l p ≡ b → filter l (p ∷ []) ≡ (if b then p ∷ [] else [])
picked l p b e = ap (λ t. if t then p ∷ [] else []) e

-- the loops: a note that tells of nothing, and one that tells of a number
module _ (log : List Note) (i : ℕ) (n : Note) (within : i < length log) (here : n ≡ get_or log i n) where
  pub done_same : ((number : ℕ) (instance : ℕ) (output : Output) → n ≡ note.Processed number instance output → ⊥)
      → numbers_done (take (i + 1) log) ≡ numbers_done (take i log)
  done_same h = done_more log i n within here ∙ ap (λ ys. numbers_done (take i log) ++ ys) (none_done n h) ∙ append-nil (numbers_done (take i log))

  pub done_next : (number instance : ℕ) (output : Output) → n ≡ note.Processed number instance output
      → numbers_done (take (i + 1) log) ≡ numbers_done (take i log) ++ number ∷ []
  done_next number instance output is = done_more log i n within here ∙ ap (λ v. numbers_done (take i log) ++ numbers_done (v ∷ [])) is

  pub picked_same : (l : ℕ → Bool) → ((number : ℕ) → n ≡ note.Arrived number → ⊥)
      → filter l (arrivals_in (take (i + 1) log)) ≡ filter l (arrivals_in (take i log))
  picked_same l h = picked_more l log i n within here ∙ ap (λ ys. filter l (arrivals_in (take i log)) ++ filter l ys) (none_came n h)
      ∙ append-nil (filter l (arrivals_in (take i log)))

  pub picked_next : (l : ℕ → Bool) (number : ℕ) → n ≡ note.Arrived number → (b : Bool) → l number ≡ b
      → filter l (arrivals_in (take (i + 1) log)) ≡ filter l (arrivals_in (take i log)) ++ (if b then number ∷ [] else [])
  picked_next l number is b e =
      picked_more l log i n within here ∙ ap (λ v. filter l (arrivals_in (take i log)) ++ filter l (arrivals_in (v ∷ []))) is
      ∙ ap (λ t. filter l (arrivals_in (take i log)) ++ (if t then number ∷ [] else [])) e

  pub left_out : (l : ℕ → Bool) (number : ℕ) → n ≡ note.Arrived number → l number ≡ false
      → filter l (arrivals_in (take (i + 1) log)) ≡ filter l (arrivals_in (take i log))
  left_out l number is e = picked_next l number is false e ∙ append-nil (filter l (arrivals_in (take i log)))

-- a number that is met is among those of the log
pub met_done : (log : List Note) (i : ℕ) (n : Note) → i < length log → n ≡ get_or log i n → (number instance : ℕ) (output : Output)
    → n ≡ note.Processed number instance output
    → numbers_done (take i log) ++ number ∷ numbers_done (drop (i + 1) log) ≡ numbers_done log
met_done log i n within here number instance output is =
    sym (ap numbers_done (sym (take-append-drop i log) ∙ ap (λ ys. take i log ++ ys)
    (drop_more log i n within ∙ ap (λ v. v ∷ drop (i + 1) log) (sym here ∙ is)))
    ∙ ap (map (λ d. d.number)) (done-append (take i log) (note.Processed number instance output ∷ drop (i + 1) log))
    ∙ map-append (λ d. d.number) (dones_in (take i log)) (dones_in (note.Processed number instance output ∷ drop (i + 1) log)))

pub met_came : (log : List Note) (i : ℕ) (n : Note) → i < length log → n ≡ get_or log i n → (number : ℕ) → n ≡ note.Arrived number
    → is_in number (arrivals_in log) ≡ true
met_came log i n within here number is =
    ap (λ l. is_in number (arrivals_in l)) (sym (take-append-drop i log)
    ∙ ap (λ ys. take i log ++ ys) (drop_more log i n within ∙ ap (λ v. v ∷ drop (i + 1) log) (sym here ∙ is)))
    ∙ ap (is_in number) (arrived-append (take i log) (note.Arrived number ∷ drop (i + 1) log))
    ∙ in_middle number (arrivals_in (take i log)) (arrivals_in (drop (i + 1) log))
