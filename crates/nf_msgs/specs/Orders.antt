-- The names and the filter in an order of the operator. This project's own.
use Rattle.std.specs.Prelude.{ℕ, List, [], ◌∷◌, Option, Some}
use Rattle.flow_filter.specs.declared.filter.Filter.{Filter}
use Rattle.nf_msgs.specs.declared.command.Order.{Order}
use Rattle.nf_msgs.specs.declared.command.Order.TheVariants.{Move, Copy, Share}

-- the names of instances in an order, as they stand there
abbrev pub order_names : Order → List (List ℕ)
order_names (Move source destination filter keep) = source ∷ destination ∷ []
order_names (Copy source destination filter) = source ∷ destination ∷ []
order_names (Share members filter) = members

-- the filter of an order
abbrev pub order_filter : Order → Option Filter
order_filter (Move source destination filter keep) = Some filter
order_filter (Copy source destination filter) = filter
order_filter (Share members filter) = Some filter
