-- What is known of a failover, in the words of its command.
use Rattle.network_calls.proofs.Words.{◌≡◌, ℕ, List, Result, Ok, Err, refl, sym, ap, ◌∙◌, subst, MatchResult, Global, Semantics, Msg, Choice, FailAsked}
use Rattle.network_calls.proofs.Words.{Config, job_of, started_with, AuditFault, Head, first_of, world_after, Subject, subject, Made, Status, OfKind, Scenario}
use Rattle.network_calls.proofs.Words.{config_for, head_for, items_for, run_given, subject_for, audit_status, reports}
use Rattle.std.proofs.Common.{take}
use Rattle.record_table.specs.Table.{TableView}
use Rattle.run_headline.specs.nf_net.specs.declared.course.AuditFault.TheVariants as audit
use Rattle.run_headline.specs.standby_failover.specs.declared.promoted.Promoted.{Promoted}
use Rattle.run_headline.specs.standby_failover.specs.Causes.{IsFailCause, IsReached}
use Rattle.run_headline.specs.standby_failover.specs.Failover.{Failover, HasCaughtUp, IsLeft, IsPromoted, failover_of}
use Rattle.run_headline.specs.standby_failover.specs.Lines.{failover_text}
use Rattle.run_headline.specs.Failover.{HasFailHeadline}
use Rattle.run_headline.proofs.others.FailedTexts.{failover_law}
use Rattle.network_calls.specs.FailRuns.{HasFailover, IsFailover, failing_for}
use Rattle.network_calls.specs.RunSteps.{IsNoFailoverAs, IsRefusedFailover}
use Rattle.network_calls.proofs.RunLemmas.{same_subject}

module _ {R : Type 0} (F : Type 0) (f : Semantics R) (asked : FailAsked) (g : Scenario) (alloc : Global) (config : Config) (items : List Msg)
    (is_config : config ≡ config_for asked.network g.site g.script.routes.items) (is_items : items ≡ items_for g.captured g.script) (told : List Choice) where
  -- what holds of the configuration and the input holds of those of the words
  moved : (Q : Config → List Msg → Type 0) → Q config items → Q (config_for asked.network g.site g.script.routes.items) (items_for g.captured g.script)
  moved Q holds = subst (λ (c : Config). Q c (items_for g.captured g.script)) is_config (subst (λ (l : List Msg). Q config l) is_items holds)

  abbrev pub failover_with : Config → List Msg → Failover F R
  failover_with c l = failover_of (job_of f c l) (world_after f (started_with alloc c l) (first_of told asked.after)) asked.failed asked.to

  -- what is left, and how it is told
  pub record Left (promoted : Promoted F R) (caught : TableView R) : Type 0 where
    pub reached : IsReached {F = F} f (started_with alloc config items) (first_of told asked.after)
    pub left : IsLeft (failover_with config items)
    pub is_promoted : IsPromoted (failover_with config items) promoted
    pub has_caught_up : HasCaughtUp (failover_with config items) caught

  -- what its report says
  said : (promoted : Promoted F R) (caught : TableView R) → Left promoted caught → (made : Made)
      → made.report ≡ failover_text f (head_for asked.network g.captured) (failing_for asked) promoted caught
      → HasFailHeadline (subject_for (run_given F f asked.network g)) (head_for asked.network g.captured) (failing_for asked) made.report
  said promoted caught is made report =
      let c = config_for asked.network g.site g.script.routes.items in
      let l = items_for g.captured g.script in
      subst (λ (v : Subject R). HasFailHeadline v (head_for asked.network g.captured) (failing_for asked) made.report) (same_subject F f asked.network g)
      (subst (HasFailHeadline (subject f c l) (head_for asked.network g.captured) (failing_for asked)) (sym report)
      (failover_law F R (failover_with c l) promoted caught (record {
        left = moved (λ c l. IsLeft (failover_with c l)) is.left;
        is_promoted = moved (λ c l. IsPromoted (failover_with c l) promoted) is.is_promoted;
        has_caught_up = moved (λ c l. HasCaughtUp (failover_with c l) caught) is.has_caught_up;
      }) (head_for asked.network g.captured) (failing_for asked) refl))

  pub failover_is : (head : Head) → head ≡ head_for asked.network g.captured → (promoted : Promoted F R) (caught : TableView R) → Left promoted caught
      → (made : Made) → made.choices ≡ take asked.after told → made.report ≡ failover_text f head (failing_for asked) promoted caught
      → IsFailover (run_given F f asked.network g) asked told (reports made)
  failover_is head is_head promoted caught is made choices report = record {
    alloc = alloc;
    reached = moved (λ c l. IsReached {F = F} f (started_with alloc c l) (first_of told asked.after)) is.reached;
    left = moved (λ c l. IsLeft (failover_with c l)) is.left;
    promoted = promoted;
    is_promoted = moved (λ c l. IsPromoted (failover_with c l) promoted) is.is_promoted;
    caught = caught;
    has_caught_up = moved (λ c l. HasCaughtUp (failover_with c l) caught) is.has_caught_up;
    choices = choices;
    report = report ∙ ap (λ (h : Head). failover_text f h (failing_for asked) promoted caught) is_head;
    headline = said promoted caught is made (report ∙ ap (λ (h : Head). failover_text f h (failing_for asked) promoted caught) is_head);
  }

  -- the first choices lead to none
  pub failover_refused : (e : AuditFault) →
      ((step : ℕ) → e ≡ audit.NotARun step → IsFailCause {F = F} f (started_with alloc config items) (first_of told asked.after) step)
      → IsNoFailoverAs (run_given F f asked.network g) asked told (audit_status e)
  failover_refused (audit.NotARun step) cause = record {
    alloc = alloc;
    cause = moved (λ c l. IsFailCause {F = F} f (started_with alloc c l) (first_of told asked.after) step) (cause step refl);
  }
  failover_refused audit.NoMemory cause = tt

-- the function is that of the words
pub failed_kind : (asked : FailAsked) (g : Scenario) (told : List Choice) (r : Result Made Status)
    → OfKind asked.network.kind
    (λ R F f. MatchResult r (λ made. IsFailover (run_given F f asked.network g) asked told (reports made))
    (IsNoFailoverAs (run_given F f asked.network g) asked told))
    → MatchResult r (λ made. HasFailover asked g told (reports made)) (IsRefusedFailover asked g told)
failed_kind asked g told (Ok made) holds = holds
failed_kind asked g told (Err status) holds = holds
