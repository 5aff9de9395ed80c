-- A script that is too long shows it in the front that is read; and the row of a script that gives nothing.
use Rattle.std.proofs.Common.{◌≡◌, ◌≤◌, ◌+◌, ℕ, Bool, true, false, ltb, List, [], length, take, drop, Some, Ok, Err, refl, sym, ◌∙◌, arith, length-take}
use Rattle.std.proofs.lemmas.Bool.{ltb-true, ltb-false, lt-ltb}
use Rattle.std.proofs.lemmas.List.{take_all, drop_all}
use Rattle.nf_function.specs.declared.kind.Kind.{Kind}
use Rattle.op_script.specs.Statements.{Word}
use Rattle.op_script.specs.Reading.{SaysWhole, ScriptView, script_of, script_view}
use Rattle.op_script.specs.Printing.{longest_script}
use Rattle.op_script.specs.declared.fault.ScriptFault.{ScriptFault}
use Rattle.op_script.specs.declared.fault.ScriptFault.TheVariants as script
use Rattle.nf_io.specs.declared.outside.Role.{Role}
use Rattle.nf_io.specs.declared.outside.Role.TheVariants.{Script}
use Rattle.nf_io.specs.Meaning.{Meaning}
use Rattle.call_files.specs.Phases.{ScriptFails}
use Rattle.call_files.specs.Status.{script_status}

front_says : (kind : Kind) (names : List Word) (bytes : List ℕ) (long : Bool) → ltb (longest_script + 1) (length bytes) ≡ long
    → script_of kind names (take (longest_script + 1) bytes) ≡ script_of kind names bytes
unfolding script_of
front_says kind names bytes false is =
    rw (take_all (longest_script + 1) bytes (ltb-false (longest_script + 1) (length bytes) is)) refl
front_says kind names bytes true is =
    let over = ltb-true (longest_script + 1) (length bytes) is in
    let long : ltb longest_script (length bytes) ≡ true = lt-ltb longest_script (length bytes) (omega arith) in
    let front : ltb longest_script (length (take (longest_script + 1) bytes)) ≡ true = lt-ltb longest_script (length (take (longest_script + 1) bytes))
    (omega (arith, length-take (longest_script + 1) bytes)) in
    rw long (rw front refl)

-- the front says what the whole says
pub script_of-front : (kind : Kind) (names : List Word) (bytes : List ℕ) → script_of kind names (take (longest_script + 1) bytes) ≡ script_of kind names bytes
script_of-front kind names bytes = front_says kind names bytes (ltb (longest_script + 1) (length bytes)) refl

short : (kind : Kind) (names : List Word) (bytes : List ℕ) (view : ScriptView) (long : Bool) → ltb longest_script (length bytes) ≡ long
    → script_of kind names bytes ≡ Ok view → length bytes ≤ longest_script
unfolding script_of
short kind names bytes view false is said = ltb-false longest_script (length bytes) is
short kind names bytes view true is said =
    let refused : script_of kind names bytes ≡ Ok view = said in absurd cc

-- of a script that is taken nothing is left
pub nothing_left : (kind : Kind) (names : List Word) (bytes : List ℕ) (view : ScriptView) → script_of kind names bytes ≡ Ok view
    → drop (longest_script + 1) bytes ≡ []
nothing_left kind names bytes view said =
    let few = short kind names bytes view (ltb longest_script (length bytes)) refl said in
    drop_all (longest_script + 1) bytes (omega arith)

-- a script that is refused
pub script_refused : (kind : Kind) (names : List Word) (old new : Role → Meaning) (fault : ScriptFault)
    → ((bytes : List ℕ) → (old Script).left ≡ Some bytes → SaysWhole script_view (Err fault) (script_of kind names (take (longest_script + 1) bytes)))
    → ScriptFails (script_of kind names) old new (script_status fault)
script_refused kind names old new (script.Bad line rule) says = λ bytes told. sym (script_of-front kind names bytes) ∙ says bytes told
script_refused kind names old new script.NoMemory says = tt
