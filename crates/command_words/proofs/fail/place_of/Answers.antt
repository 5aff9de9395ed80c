-- A name that no instance has has no place.
use Rattle.std.proofs.Common.{List, ℕ, sym, ap, ◌∙◌}
use Rattle.std.specs.Prelude.{option_map, option_and_then}
use Rattle.std.specs.Borrow.{Bor}
use Rattle.command_words.specs.FailWords.{place_of}
use Rattle.command_words.proofs.fail.place_of.Goals as goal

pub returns-in-None-clause-place : goal.returns-in-None-clause-place
returns-in-None-clause-place c =
    let rows = c.args.instances.now.rows.items in
    sym (ap (λ o. option_and_then (place_of rows) (option_map (λ (t : Bor (List ℕ)). t.now) o)) c.in_ok-name.was
    ∙ ap (place_of rows) (sym c.as_bytes.ensures.value) ∙ sym c.in-None.ensures.place)
