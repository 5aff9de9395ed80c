-- Each member adds its parts, and where no member is left, the parts so far are the parts of all.
use Rattle.std.proofs.Common.{sym, ◌∙◌, ap, map, ◌++◌, append-nil, append_assoc}
use Rattle.std.specs.Prelude.{◌&&◌}
use Rattle.std.specs.List.{list_all}
use Rattle.actor_threads.specs.Groups.{has_run}
use Rattle.actor_threads.proofs.NotesByCounts.{none}
use Rattle.actor_threads.proofs.round.take_apart.Goals as goal

pub returns-clause-nodes : goal.returns-clause-nodes
returns-clause-nodes g c = let empty = none _ (sym c.in_default.ensures.cases.0 ∙ c.loop-member.members.ok.0) in
    sym (append-nil _) ∙ ap (λ l. c.loop-member.round_parts.nodes.items ++ map (λ s. s.worker.node) l) (sym empty) ∙ c.loop-member.invariant.nodes

pub returns-clause-histories : goal.returns-clause-histories
returns-clause-histories g c = let empty = none _ (sym c.in_default.ensures.cases.0 ∙ c.loop-member.members.ok.0) in
    sym (append-nil _) ∙ ap (λ l. c.loop-member.round_parts.histories.items ++ map (λ s. record { node = s.worker.number; steps = s.worker.steps }) l)
    (sym empty) ∙ c.loop-member.invariant.histories

pub returns-clause-notes : goal.returns-clause-notes
returns-clause-notes g c = let empty = none _ (sym c.in_default.ensures.cases.0 ∙ c.loop-member.members.ok.0) in
    sym (append-nil _) ∙ ap (λ l. c.loop-member.round_parts.notes.items ++ map (λ s. s.worker.notes) l) (sym empty) ∙ c.loop-member.invariant.notes

pub returns-clause-ins : goal.returns-clause-ins
returns-clause-ins g c = let empty = none _ (sym c.in_default.ensures.cases.0 ∙ c.loop-member.members.ok.0) in
    sym (append-nil _) ∙ ap (λ l. map (λ v. v.items) c.loop-member.round_parts.ins.items ++ map (λ s. s.worker.ins) l) (sym empty) ∙ c.loop-member.invariant.ins

pub returns-clause-outs : goal.returns-clause-outs
returns-clause-outs g c = let empty = none _ (sym c.in_default.ensures.cases.0 ∙ c.loop-member.members.ok.0) in
    sym (append-nil _) ∙ ap (λ l. map (λ v. v.items) c.loop-member.round_parts.outs.items ++ map (λ s. s.worker.outs) l) (sym empty)
    ∙ c.loop-member.invariant.outs

pub loop-member-preserved : goal.loop-member-preserved
loop-member-preserved g c =
    let inv = c.loop-member.invariant in
    let is = c.in-Some.ensures.items in
    let add = c.in_ok-add.ensures in
    let parts = c.loop-member.round_parts in
    let left = c.pop_front.new.self.items in
    record {
      done = inv.done ∙ ap (list_all has_run) is ∙ ap (λ b. b && list_all has_run left) (sym c.has_run.ensures ∙ c.if-not-has_run.false);
      nodes = ap (λ l. l ++ map (λ s. s.worker.node) left) add.nodes ∙ append_assoc parts.nodes.items _ _
          ∙ ap (λ l. parts.nodes.items ++ map (λ s. s.worker.node) l) (sym is) ∙ inv.nodes;
      histories = ap (λ l. l ++ map (λ s. record { node = s.worker.number; steps = s.worker.steps }) left) add.histories
          ∙ append_assoc parts.histories.items _ _
          ∙ ap (λ l. parts.histories.items ++ map (λ s. record { node = s.worker.number; steps = s.worker.steps }) l) (sym is) ∙ inv.histories;
      notes = ap (λ l. l ++ map (λ s. s.worker.notes) left) add.notes ∙ append_assoc parts.notes.items _ _
          ∙ ap (λ l. parts.notes.items ++ map (λ s. s.worker.notes) l) (sym is) ∙ inv.notes;
      ins = ap (λ l. l ++ map (λ s. s.worker.ins) left) add.ins ∙ append_assoc (map (λ v. v.items) parts.ins.items) _ _
          ∙ ap (λ l. map (λ v. v.items) parts.ins.items ++ map (λ s. s.worker.ins) l) (sym is) ∙ inv.ins;
      outs = ap (λ l. l ++ map (λ s. s.worker.outs) left) add.outs ∙ append_assoc (map (λ v. v.items) parts.outs.items) _ _
          ∙ ap (λ l. map (λ v. v.items) parts.outs.items ++ map (λ s. s.worker.outs) l) (sym is) ∙ inv.outs;
    }
