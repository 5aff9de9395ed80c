-- What a run is given, the plans of its commands, and to which node the packets of a unit go after commands that were installed.
use Rattle.proof_outlines.proofs.Words.{◌≡◌, ℕ, Bool, false, Option, Some, List, [], ◌∷◌, ◌++◌, if◌then◌else◌, ◌&&◌, ◌||◌, filter_map, Filter, Packet, Site}
use Rattle.proof_outlines.proofs.Words.{takes, Target, Order, Note, Installed, instance_node, MovePlan, CopyPlan, SharePlan, place_of, owner_after, loose_after}
use Rattle.proof_outlines.proofs.Words.{owner_after_order, is_home, Unit}
use Rattle.nf_msgs.specs.declared.note.Note.TheVariants.{Arrived}

-- what a run is given: the site, the packet of each number, the instances' names, the order under each number, and who owns each
-- unit at first
pub record Given : Type 0 where
  pub site : Site
  pub packet : ℕ → Packet
  pub names : List (List ℕ)
  pub orders : ℕ → Option Order
  pub first : Unit → ℕ

abbrev pub place : Given → List ℕ → Option ℕ
place g = place_of g.names

-- the plan of a move is that of the order under its number
pub record IsPlan (g : Given) (op : ℕ) (plan : MovePlan) : Type 0 where
  pub source : List ℕ
  pub destination : List ℕ
  pub order_is : g.orders op ≡ Some (Order.Move source destination plan.filter plan.keep)
  pub from_is : place_of g.names source ≡ Some plan.from
  pub to_is : place_of g.names destination ≡ Some plan.to

-- the plan of a copy is that of the order under its number
pub record IsCopyPlan (g : Given) (op : ℕ) (plan : CopyPlan) : Type 0 where
  pub source : List ℕ
  pub destination : List ℕ
  pub order_is : g.orders op ≡ Some (Order.Copy source destination plan.filter)
  pub from_is : place_of g.names source ≡ Some plan.from
  pub to_is : place_of g.names destination ≡ Some plan.to

-- a change of the switch's rules: the packets that a filter takes from one instance get a target
pub record RuleChange : Type 0 where
  pub filter : Filter
  pub from : ℕ
  pub to : Target

-- it is that of the order under its number
pub record IsInstall (g : Given) (op : ℕ) (change : RuleChange) : Type 0 where
  pub plan : MovePlan
  pub plan_is : IsPlan g op plan
  pub filter_is : plan.filter ≡ change.filter
  pub from_is : plan.from ≡ change.from
  pub to_is : change.to ≡ Target.Instance plan.to

-- the plan of a share is that of the order under its number
pub record IsSharePlan (g : Given) (op : ℕ) (plan : SharePlan) : Type 0 where
  pub names : List (List ℕ)
  pub order_is : g.orders op ≡ Some (Order.Share names plan.filter)
  pub members_are : filter_map (place_of g.names) names ≡ plan.members
  pub site_is : plan.site ≡ g.site

-- and a change of the switch's rules to the controller is that of a share: it takes packets from its home, which is the first of its names
pub record IsDivert (g : Given) (op : ℕ) (filter : Filter) (from : ℕ) : Type 0 where
  pub name : List ℕ
  pub others : List (List ℕ)
  pub order_is : g.orders op ≡ Some (Order.Share (name ∷ others) filter)
  pub home_is : place_of g.names name ≡ Some from

abbrev pub IsChangeTo : Given → ℕ → RuleChange → Target → Type 0
IsChangeTo g op change (Target.Instance to) = IsInstall g op change
IsChangeTo g op change Target.Controller = IsDivert g op change.filter change.from

abbrev pub IsChange : Given → ℕ → RuleChange → Type 0
IsChange g op change = IsChangeTo g op change change.to

-- who owns a unit after these commands were installed, and whether one of them was a plain move that handed it on
abbrev pub owner_by : Given → Unit → List ℕ → ℕ
owner_by g u ops = owner_after g.names g.orders u (g.first u) ops

abbrev pub loose_by : Given → Unit → List ℕ → Bool
loose_by g u ops = loose_after g.names g.orders u (g.first u) ops

-- whether a share that the switch has installed takes the unit from this instance: from its home alone
abbrev pub diverts : Given → Unit → Option Order → ℕ → Bool
diverts g u (Some (Order.Share members filter)) i = takes filter u && is_home g.names g.orders members i
diverts g u what i = false

abbrev pub diverted_after : Given → Unit → ℕ → List ℕ → Bool
diverted_after g u i [] = false
diverted_after g u i (op ∷ ops) = diverts g u (g.orders op) i || diverted_after g u (owner_after_order g.names g.orders u (g.orders op) i) ops

abbrev pub is_diverted : Given → Unit → List ℕ → Bool
is_diverted g u ops = diverted_after g u (g.first u) ops

-- the node that a unit's packets go to: its owner, or the controller where a share has it
abbrev pub target_by : Given → Unit → List ℕ → ℕ
target_by g u ops = if is_diverted g u ops then 1 else instance_node (owner_by g u ops)

-- the packets of a unit that arrived while its packets were diverted, these commands being installed before
abbrev pub diverted_in : Given → (ℕ → Bool) → Unit → List ℕ → List Note → List ℕ
diverted_in g mine u ops [] = []
diverted_in g mine u ops (Arrived p ∷ notes) = if mine p && is_diverted g u ops then p ∷ diverted_in g mine u ops notes else diverted_in g mine u ops notes
diverted_in g mine u ops (Installed op ∷ notes) = diverted_in g mine u (ops ++ op ∷ []) notes
diverted_in g mine u ops (n ∷ notes) = diverted_in g mine u ops notes
