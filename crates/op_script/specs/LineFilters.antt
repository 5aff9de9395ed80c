-- The filter that a line of a script gives, if it gives one. This project's own.
use Rattle.std.specs.Prelude.{Option, None, Some}
use Rattle.flow_filter.specs.declared.filter.Filter.{Filter}
use Rattle.nf_msgs.specs.declared.command.Order.{Order}
use Rattle.nf_msgs.specs.Orders.{order_filter}
use Rattle.op_script.specs.declared.script.What.{What}
use Rattle.op_script.specs.declared.script.What.TheVariants.{Command, Settle}

-- the filter of what was said: an order, or a settle
abbrev pub said_filter : Option Order → Option Filter
said_filter None = None
said_filter (Some order) = order_filter order

-- the filter of what happens
abbrev pub what_filter : What → Option Filter
what_filter (Command command) = order_filter command.what
what_filter Settle = None
