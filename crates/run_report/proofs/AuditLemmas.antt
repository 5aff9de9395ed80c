-- What a world that choices lead to tells of them: they are a complete run where it is at its end, and else one that is short of it.
use Rattle.std.proofs.Common.{◌≡◌, ℕ, ◌+◌, Bool, true, false, Result, List, length, refl, sym, ap, ◌∙◌, inr}
use Rattle.std.specs.Prelude.{IfOk}
use Rattle.std.proofs.lemmas.Result.{IfOk-weaker}
use Rattle.nf_function.specs.Semantics.{Semantics}
use Rattle.nf_msgs.specs.declared.msg.Msg.{Msg}
use Rattle.nf_msgs.specs.declared.note.Note.{Note}
use Rattle.actor_net.specs.declared.choice.Choice.{Choice}
use Rattle.actor_net.specs.Network.{Network, is_done}
use Rattle.net_world.specs.declared.node.Node.{Node}
use Rattle.net_world.specs.Nodes.{node_ended}
use Rattle.net_world.specs.Runs.{LeadsTo}
use Rattle.report_lines.specs.declared.heads.Head.{Head}
use Rattle.run_report.specs.Audits.{IsCompleteRun, IsAuditCause, world_after}
use Rattle.run_report.specs.Lines.{report_text}

module _ {F R : Type 0} (f : Semantics R) (first : Network (Node F R) Msg Note) (cs : List Choice) (w : Network (Node F R) Msg Note)
    (leads : LeadsTo f first cs w) where
  led : LeadsTo f first cs (world_after f first cs)
  led = record { is_run = leads.is_run; reached = refl }

  pub complete : is_done node_ended w ≡ true → IsCompleteRun f first cs
  complete done = record { leads = led; complete = ap (is_done node_ended) (sym leads.reached) ∙ done }

  pub short : is_done node_ended w ≡ false → (step : ℕ) → step ≡ length cs + 1 → IsAuditCause f first cs step
  short left step counted = inr (record { leads = led; incomplete = ap (is_done node_ended) (sym leads.reached) ∙ left; counted = counted })

  -- the report of the world is that of the world after them
  pub text_is : {E : Type 0} (head : Head) (summary : Bool) (made : Result (List ℕ) E) → IfOk made (λ text. text ≡ report_text f head summary w)
      → IfOk made (λ text. text ≡ report_text f head summary (world_after f first cs))
  text_is head summary made =
      IfOk-weaker made (λ text. text ≡ report_text f head summary w) (λ text. text ≡ report_text f head summary (world_after f first cs))
      (λ text is. is ∙ ap (report_text f head summary) leads.reached)
