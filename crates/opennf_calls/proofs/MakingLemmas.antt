-- What a command that makes a capture did, from what the making answered.
use Rattle.opennf_calls.proofs.Words.{◌≡◌, ℕ, List, [], Err, refl, subst, ◌⊎◌, inl, inr, IsTrue, Role, Trace, Report, TraceOut, Errors, Meaning, Rose, Outcome}
use Rattle.opennf_calls.proofs.Words.{is_input, is_result, RunResults, ForResults, IsBound, OnlyRead, Performs, Wrote, WroteReport, all_of, at_each}
use Rattle.std.proofs.Common.{◌≤◌}
use Rattle.nf_io.specs.Meaning.{OthersStay}
use Rattle.trace_reader.specs.Generated.{capture}
use Rattle.trace_reader.specs.Making.{Makes}
use Rattle.trace_reader.specs.declared.make.MakeFault.{MakeFault}
use Rattle.trace_reader.specs.declared.make.MakeFault.TheVariants.{Write, NoMemory}
use Rattle.command_words.specs.Requests.{GenAsked, asks_gen}
use Rattle.opennf_calls.specs.Outcome.{gen_line}
use Rattle.call_files.specs.Status.{making_status}
use Rattle.opennf_calls.proofs.WrittenRuns.{by_part}
use Rattle.opennf_calls.proofs.TwoResults.{GivesBoth, WritesFirst, both_written, file_failed, second_failed}

results_of : (g : GenAsked) (other : Role) → IsTrue (is_result (asks_gen g) other) → (other ≡ TraceOut) ⊎ (other ≡ Report)
results_of g TraceOut result = inl refl
results_of g Report result = inr refl
results_of g other result = absurd (cc)

no_input : (g : GenAsked) (other : Role) → IsTrue (is_input (asks_gen g) other) → ⊥
no_input g Trace input = cc
no_input g other input = cc

-- the file is written first
pub gen_writes : (g : GenAsked) → WritesFirst (asks_gen g) TraceOut
gen_writes g = record { written = refl; differs = refl; result = refl; only = results_of g }

abbrev gen_text : GenAsked → Role → List ℕ
gen_text g TraceOut = capture g.number g.packets g.hosts
gen_text g role = gen_line g

-- no choices, and the two texts
abbrev pub gen_made : GenAsked → RunResults
gen_made g = record { choices = []; texts = gen_text g }

pub gen_texts : (g : GenAsked) (old : Role → Meaning) → ForResults (asks_gen g) old old (GivesBoth TraceOut (gen_made g))
gen_texts g old bytes told = record {
  read = λ role input. absurd (no_input g role input);
  sound = refl;
  made = gen_made g;
  are = (refl, record { made = refl; line = refl });
  wrote = record { is_made = refl; file = refl; report = refl };
}

-- nothing is read
pub none_read : (old : Role → Meaning) → OnlyRead old old
none_read old = record { written = λ role. refl; names = λ role. refl; others = λ role unread. refl }

-- the capture was written, and then the line, whole or in part
pub gen_ended : (g : GenAsked) (old mid new : Role → Meaning) → IsBound (asks_gen g) old
    → Wrote TraceOut old mid (all_of (capture g.number g.packets g.hosts)) → (line : List ℕ) → line ≡ gen_line g → (outcome : Outcome)
    → WroteReport (record { choices = []; report = line }) mid new outcome → Performs (asks_gen g) old new outcome
gen_ended g old mid new bound file line is outcome wrote =
    by_part (asks_gen g) old mid new (record { choices = []; report = gen_line g }) outcome
    (both_written (asks_gen g) TraceOut (gen_writes g) old old (none_read old) bound (gen_made g) (gen_texts g old) mid new file)
    (second_failed (asks_gen g) TraceOut (gen_writes g) old old (none_read old) bound (gen_made g) (gen_texts g old) mid new file)
    (subst (λ (text : List ℕ). WroteReport (record { choices = []; report = text }) mid new outcome) is wrote)

-- a role was written, and nothing but what was written and its count of faults changed
pub record WrittenAlone (role : Role) (old new : Role → Meaning) : Type 0 where
  pub later : (old role).faults ≤ (new role).faults
  pub left : (new role).left ≡ (old role).left
  pub name : (new role).name ≡ (old role).name
  pub others : OthersStay role old new

-- the command ended with the status of a capture that can't be made
pub making_performs : (g : GenAsked) (old new : Role → Meaning) (fault : MakeFault) → IsBound (asks_gen g) old → WrittenAlone TraceOut old new
    → Makes (capture g.number g.packets g.hosts) (old TraceOut).written (new TraceOut).written (Err fault)
    → (fault ≡ Write → Rose (old TraceOut).faults (new TraceOut).faults)
    → Performs (asks_gen g) old new (record { status = making_status fault; choices = [] })
making_performs g old new Write bound alone made rose =
    file_failed (asks_gen g) TraceOut (gen_writes g) old old (none_read old) bound (gen_made g) (gen_texts g old) new
    (record { gains = (made, rose refl); later = alone.later; left = alone.left; name = alone.name; others = alone.others })
making_performs g old new NoMemory bound alone made rose = record {
  row = (λ other differ. at_each TraceOut old new (λ a b. b.written ≡ a.written) alone.others (λ m. refl) made other, refl);
  names = at_each TraceOut old new (λ a b. b.name ≡ a.name) alone.others (λ m. refl) alone.name;
  errors = alone.others Errors (λ same. cc);
}
