-- The row of a command that runs the network, from what it gives and what was written.
use Rattle.opennf_calls.proofs.Words.{◌≡◌, ℕ, List, [], None, is_some, false, refl, ap, sym, ◌∙◌, subst, IsTrue, ◌⊎◌, inl, inr, Role, Report, JournalOut}
use Rattle.opennf_calls.proofs.Words.{TraceOut, Meaning, Choice, Schedule, Asked, FailAsked, NetworkAsked, asks_sim, asks_run, asks_audit, asks_fail, Status}
use Rattle.opennf_calls.proofs.Words.{Done, WriteFault, NoMemory, Outcome, Made, file_for, is_result, with_journal, RunResults, ForResults, IsBound}
use Rattle.opennf_calls.proofs.Words.{GivesReport, OnlyRead, gives, Performs, Written, all_of, front_of, Wrote, WroteReport}
use Rattle.call_files.specs.Writing.{is_part, report_end, WroteBoth, WroteFront, WroteRun, Report_alone, Both, Front_alone, Nothing}
use Rattle.opennf_calls.proofs.RowLemmas.{ends, report_failed, report_written, silent}
use Rattle.opennf_calls.proofs.TwoResults.{GivesBoth, WritesFirst, both_written, file_failed, second_failed}

-- the same end, told by status and choices
same_end : (asked : Asked) (old new : Role → Meaning) (made : Made) (outcome : Outcome) (status : Status) → outcome.status ≡ status
    → outcome.choices ≡ made.choices
    → Performs asked old new (record { status = status; choices = made.choices }) → Performs asked old new outcome
same_end asked old new made outcome status ended chose performs =
    subst (λ (o : Outcome). Performs asked old new o) (sym (both outcome ended chose)) performs
  where
    both : (o : Outcome) → o.status ≡ status → o.choices ≡ made.choices → o ≡ record { status = status; choices = made.choices }
    both o is chosen =
        subst (λ (st : Status). o ≡ record { status = st; choices = made.choices }) is
        (subst (λ (cs : List Choice). o ≡ record { status = o.status; choices = cs }) chosen refl)

-- a report was written, whole or in part
pub by_part : (asked : Asked) (old mid new : Role → Meaning) (made : Made) (outcome : Outcome)
    → (Wrote Report mid new (all_of made.report) → Performs asked old new (record { status = Done; choices = made.choices }))
    → (Wrote Report mid new (front_of made.report) → Performs asked old new (record { status = WriteFault Report; choices = made.choices }))
    → WroteReport made mid new outcome → Performs asked old new outcome
by_part asked old mid new made outcome whole front wrote =
    same_end asked old new made outcome (report_end wrote.part) wrote.status wrote.choices (by wrote.part wrote.is wrote.wrote)
  where
    by : (part : Written) → is_part part made.report → Wrote Report mid new part
        → Performs asked old new (record { status = report_end part; choices = made.choices })
    by (all_of text) is gained = whole (subst (λ (t : List ℕ). Wrote Report mid new (all_of t)) is gained)
    by (front_of text) is gained = front (subst (λ (t : List ℕ). Wrote Report mid new (front_of t)) is gained)

-- a command that made a report
module _ (asked : Asked) (old mid : Role → Meaning) (read : OnlyRead old mid) (bound : IsBound asked old)
    (made : Made) (results : ForResults asked old mid (GivesReport made.choices made.report)) where
  -- the report was written
  pub report_performs : ((other : Role) → IsTrue (is_result asked other) → other ≡ Report) → (new : Role → Meaning) (outcome : Outcome)
      → WroteReport made mid new outcome → Performs asked old new outcome
  report_performs only new outcome =
      by_part asked old mid new made outcome (report_written asked old mid new read bound only made.choices made.report results)
      (report_failed asked old mid new read bound only made.choices made.report results)

module _ (s : NetworkAsked) (asked : Asked) (old mid : Role → Meaning) (read : OnlyRead old mid) (bound : IsBound asked old)
    (made : Made) (results : ForResults asked old mid (λ g. g ≡ gives s made)) where
  weakened : (P : RunResults → Type 0) → P (gives s made) → ForResults asked old mid P
  weakened P holds bytes told =
      let found = results bytes told in
      record { read = found.read; sound = found.sound; made = found.made; are = found.are; wrote = subst P (sym found.wrote) holds }

  -- the report of a run was written
  pub run_report_performs : ((other : Role) → IsTrue (is_result asked other) → other ≡ Report) → (new : Role → Meaning) (outcome : Outcome)
      → WroteReport made mid new outcome → Performs asked old new outcome
  run_report_performs =
      report_performs asked old mid read bound made (weakened (GivesReport made.choices made.report) (record { is_made = refl; report = refl }))

  two_texts : ForResults asked old mid (GivesBoth JournalOut (gives s made))
  two_texts = weakened (GivesBoth JournalOut (gives s made)) (record { is_made = refl; file = refl; report = refl })

  -- the journal was written, and then the report
  both_performs : WritesFirst asked JournalOut → (new : Role → Meaning) (outcome : Outcome) → WroteBoth (record { asked = s; made = made }) mid new outcome
      → Performs asked old new outcome
  both_performs writes new outcome both =
      by_part asked old both.mid new made outcome
      (both_written asked JournalOut writes old mid read bound (gives s made) two_texts both.mid new both.journal)
      (second_failed asked JournalOut writes old mid read bound (gives s made) two_texts both.mid new both.journal) both.report

  -- the journal was written in part
  front_performs : WritesFirst asked JournalOut → (new : Role → Meaning) (outcome : Outcome)
      → WroteFront (record { asked = s; made = made }) mid new outcome → Performs asked old new outcome
  front_performs writes new outcome front =
      same_end asked old new made outcome (WriteFault JournalOut) front.status front.choices
      (file_failed asked JournalOut writes old mid read bound (gives s made) two_texts new front.journal)

  -- nothing was written
  nothing_performs : (new : Role → Meaning) (outcome : Outcome) → mid ≡ new → outcome ≡ record { status = NoMemory; choices = [] }
      → Performs asked old new outcome
  nothing_performs new outcome same ended =
      subst (λ (now : Role → Meaning). Performs asked old now outcome) same
      (subst (λ (o : Outcome). Performs asked old mid o) (sym ended) (ends old mid read asked NoMemory (silent old mid read, refl)))

-- what a run writes: the report, and before it a journal where the words name a file for it
pub record WritesRun (s : NetworkAsked) (asked : Asked) : Type 0 where
  pub alone : s.journal ≡ None → (other : Role) → IsTrue (is_result asked other) → other ≡ Report
  pub first : IsTrue (is_some s.journal) → WritesFirst asked JournalOut

-- what was made was written, or nothing was
pub run_performs : (s : NetworkAsked) (asked : Asked) (writes : WritesRun s asked) (old mid new : Role → Meaning) → OnlyRead old mid → IsBound asked old
    → (made : Made) → ForResults asked old mid (λ g. g ≡ gives s made) → (outcome : Outcome) → WroteRun (record { asked = s; made = made }) mid new outcome
    → Performs asked old new outcome
run_performs s asked writes old mid new read bound made results outcome (Report_alone none wrote) =
    run_report_performs s asked old mid read bound made results (writes.alone none) new outcome wrote
run_performs s asked writes old mid new read bound made results outcome (Both named wrote) =
    both_performs s asked old mid read bound made results (writes.first named) new outcome wrote
run_performs s asked writes old mid new read bound made results outcome (Front_alone named wrote) =
    front_performs s asked old mid read bound made results (writes.first named) new outcome wrote
run_performs s asked writes old mid new read bound made results outcome (Nothing same ended) =
    nothing_performs s asked old mid read bound made results new outcome same ended

-- the results of a command whose journal is one
module _ (s : NetworkAsked) (asked : Asked) (files : (role : Role) → file_for asked role ≡ with_journal s JournalOut role) where
  alone : s.journal ≡ None → (other : Role) → IsTrue (is_result asked other) → other ≡ Report
  alone none Report result = refl
  alone none JournalOut result = let no_file : is_some (file_for asked JournalOut) ≡ false = ap is_some (files JournalOut ∙ none) in absurd (cc)
  alone none TraceOut result = let no_file : is_some (file_for asked TraceOut) ≡ false = ap is_some (files TraceOut) in absurd (cc)
  alone none other result = absurd (cc)

  only : (other : Role) → IsTrue (is_result asked other) → (other ≡ JournalOut) ⊎ (other ≡ Report)
  only Report result = inr refl
  only JournalOut result = inl refl
  only TraceOut result = let no_file : is_some (file_for asked TraceOut) ≡ false = ap is_some (files TraceOut) in absurd (cc)
  only other result = absurd (cc)

  pub writes_run : WritesRun s asked
  writes_run = record {
    alone = alone;
    first = λ named. record { written = refl; differs = refl; result = ap is_some (files JournalOut) ∙ named; only = only };
  }

pub sim_writes : (s : NetworkAsked) (schedule : Schedule) → WritesRun s (asks_sim s schedule)
sim_writes s schedule = writes_run s (asks_sim s schedule) (λ role. refl)

pub run_writes : (s : NetworkAsked) → WritesRun s (asks_run s)
run_writes s = writes_run s (asks_run s) (λ role. refl)

-- an audit writes the report alone
pub audit_writes : (s : NetworkAsked) (other : Role) → IsTrue (is_result (asks_audit s) other) → other ≡ Report
audit_writes s Report result = refl
audit_writes s other result = absurd (cc)

-- and so does a failover
pub fail_writes : (f : FailAsked) (other : Role) → IsTrue (is_result (asks_fail f) other) → other ≡ Report
fail_writes f Report result = refl
fail_writes f other result = absurd (cc)
