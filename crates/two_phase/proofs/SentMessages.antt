-- Three texts that are put after a text, one after another, are put after it as one.
use Rattle.two_phase.proofs.Words.{◌≡◌, Ok, Err, Result, List, ◌++◌, ap, ◌∙◌, append_assoc, OnOk}

pub three_after : {X T E : Type 0} (result : Result T E) (new old one two three : List X) → OnOk result (new ≡ ((old ++ one) ++ two) ++ three)
    → OnOk result (new ≡ old ++ ((one ++ two) ++ three))
three_after (Err e) new old one two three h = tt
three_after (Ok x) new old one two three h =
    h ∙ ap (λ l. l ++ three) (append_assoc old one two) ∙ append_assoc old (one ++ two) three
