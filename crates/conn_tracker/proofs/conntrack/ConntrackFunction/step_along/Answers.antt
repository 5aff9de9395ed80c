-- A step keeps what is valid for its flow.
use Rattle.std.proofs.Common.{◌≡◌, ◌∙◌, ap, sym, subst, rules, true, Option, Some}
use Rattle.flow_filter.proofs.FlowLemmas.{proto-flow_of}
use Rattle.nf_function.specs.Units.{is_transport, is_transport_flow}
use Rattle.nf_function.specs.declared.unit.Unit.TheVariants.{Flow as OfFlow}
use Rattle.nf_function.specs.Semantics.{is_sound}
use Rattle.conn_tracker.specs.declared.record.TrackRecord.{TrackRecord}
use Rattle.conn_tracker.specs.Conntrack.{conntrack}
use Rattle.conn_tracker.proofs.SoundSteps.{known_flow, valid_record, record_fits}
use Rattle.conn_tracker.proofs.conntrack.ConntrackFunction.step_along.Goals as goal
use Rattle.conn_tracker.proofs.conntrack.ConntrackFunction.step_along.Goals.{then-is_transport, else-is_transport, in-None, in-Some}

pub returns-clause-sound : goal.returns-clause-sound
returns-clause-sound c = λ sound.
    let same : c.args._flow.proto ≡ c.args.packet.now.proto =
    ap (λ f. f.0.proto) c.requires ∙ proto-flow_of c.args._site.now c.args.packet.now in
    elim c.if-is_transport.branch [
      | then-is_transport w ↦
          let transport : is_transport c.args.packet.now.proto ≡ true = sym c.is_transport.ensures ∙ w.if-is_transport.true in
          let flow : is_transport_flow c.args._flow ≡ true =
          known_flow c.args._flow (rw same transport) (search rules) (search rules) (search rules) (search rules) in
          rw w.kept-is (elim c.match-kept.branch [
            | in-None v ↦
                rw v.next-is (valid_record c.args._flow c.args.packet.now.proto v.first_record-next.result flow same v.first_record-next.ensures.fits
                v.first_record-next.ensures.within)
            | in-Some v ↦
                let before : is_sound conntrack (OfFlow c.args._flow) (Some v.in-Some.before) ≡ true =
                subst (λ (o : Option TrackRecord). is_sound conntrack (OfFlow c.args._flow) o ≡ true) v.in-Some.is sound in
                rw v.next-is (valid_record c.args._flow c.args.packet.now.proto v.record_after-next.result flow same
                (v.record_after-next.ensures.fits (record_fits c.args._flow c.args.packet.now.proto v.in-Some.before before same))
                v.record_after-next.ensures.within)
          ])
      | else-is_transport w ↦ rw w.kept-is (elim c.match-kept.branch [
        | in-None v ↦ rw v.kept-is sound
        | in-Some v ↦
            rw v.kept-is (subst (λ (o : Option TrackRecord). is_sound conntrack (OfFlow c.args._flow) o ≡ true) v.in-Some.is sound)
      ])
    ]
