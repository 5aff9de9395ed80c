-- Steps between code and definition, which nobody has to believe: how contracts see the statements of lines, each word as its bytes. This
-- project's own.
use Rattle.std.specs.Prelude.{option_map}
use Rattle.op_script.specs.declared.statement.Statement as code
use Rattle.op_script.specs.declared.statement.Statement.TheVariants.{Silent as CodeSilent, Route, At}
use Rattle.op_script.specs.declared.statement.Event as event
use Rattle.op_script.specs.declared.statement.Event.TheVariants.{Move, Copy, Share, Settle}
use Rattle.op_script.specs.Statements.{Event, Moving, Copying, Sharing, Settling, Statement, Silent, Routing, Happening}

abbrev pub event_view : event.Event → Event
event_view (Move source destination filter keep) = Moving source.now destination.now filter.now keep
event_view (Copy source destination filter) = Copying source.now destination.now (option_map (λ w. w.now) filter)
event_view (Share members filter) = Sharing members.now filter.now
event_view Settle = Settling

abbrev pub statement_view : code.Statement → Statement
statement_view CodeSilent = Silent
statement_view (Route filter instance) = Routing filter.now instance.now
statement_view (At at event) = Happening at (event_view event)
