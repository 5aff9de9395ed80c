-- What the lines of a report say of each instance besides what is live there: how many packets it has processed, and which records stand by
-- at it. This project's own.
use Rattle.std.specs.Prelude.{◌≡◌, ◌≤◌, ℕ, ◌+◌, ◌==◌, ◌&&◌, Bool, false, true, List, ◌∷◌, [], map}
use Rattle.std.specs.Prelude.{filter, length, take, zip, slice_get, slice_index, Some, option_to_list}
use Rattle.std.specs.List.{AllByRecursion, list_any}
use Rattle.std.specs.Str.{bytes_eq}
use Rattle.flow_filter.specs.declared.filter.Filter.{Filter}
use Rattle.flow_filter.specs.Name.{has_twice, place_of}
use Rattle.nf_function.specs.declared.unit.Unit as units
use Rattle.nf_function.specs.Units.{takes}
use Rattle.record_table.specs.Table.{same_unit}
use Rattle.nf_msgs.specs.declared.command.Command.{Command}
use Rattle.nf_msgs.specs.declared.command.Order.{Order}
use Rattle.nf_msgs.specs.declared.command.Order.TheVariants.{Copy, Share}
use Rattle.net_world.specs.Places.{first_owner}
use Rattle.report_lines.specs.Lines.{NamedInstance, NamedRecord}
use Rattle.run_headline.specs.Causes.{is_answered, is_done}
use Rattle.run_headline.specs.Headline.{ReportLines, is_covered, moves, packets_of, record_after}
use Rattle.run_headline.specs.Subject.{Subject}

module _ {R : Type 0} where
  -- the records of a unit under a name
  abbrev pub records_under : units.Unit → List ℕ → List (NamedRecord R) → List R
  records_under unit name records = map (λ s. s.kept) (filter (λ s. same_unit s.unit unit && bytes_eq s.name name) records)

  -- of each unit that an order shares, what is live under the name of the first member stands by under that of each other member
  abbrev pub IsShared : List (NamedRecord R) → List (NamedRecord R) → Order → Type 0
  IsShared states standbys (Share (home ∷ others) taken) =
      (unit : units.Unit) (kept : R) → takes taken unit ≡ true → records_under unit home states ≡ kept ∷ []
      → AllByRecursion (λ name. records_under unit name standbys ≡ kept ∷ []) others
  IsShared states standbys order = Unit {0}

-- records of a unit are what one instance that nothing moved has of it after so many of its packets, or after more
pub record IsAsNew {R : Type 0} (subject : Subject R) (unit : units.Unit) (least : ℕ) (records : List R) : Type 0 where
  pub count : ℕ
  pub enough : least ≤ count
  pub records_are : records ≡ option_to_list (record_after subject (take count (packets_of subject unit)))

module _ {R : Type 0} (subject : Subject R) (lines : ReportLines R) where
  -- how many `done` lines name the instance with a number
  abbrev pub dones_at : ℕ → ℕ
  dones_at i = length (filter (λ d. d.1 == i) lines.dones)

  -- the `tally` lines: an instance's own count is the number of `done` lines that name it, and no instance counts more of another
  abbrev pub AreTallies : List (NamedInstance R) → Type 0
  AreTallies told = (i : ℕ) (x : NamedInstance R) → slice_get told i ≡ Some x → let counts = take (length subject.config.names) x.slots in
      (slice_get counts i ≡ Some (dones_at i)) × ((j : ℕ) → slice_index counts j ≤ dones_at j)

  -- the unit stays at the instance with a name: its route leads there, and no move that is done takes it
  pub record StaysAt (unit : units.Unit) (name : List ℕ) : Type 0 where
    pub routed : place_of subject.config.names name ≡ Some (first_owner unit subject.config.routes)
    pub unmoved : list_any (λ c. moves (λ keep. true) unit c.what && is_answered is_done lines.answers c.op) subject.commands ≡ false

  -- how many of the first `done` lines, up to a moment, are of the unit
  abbrev pub dones_of : units.Unit → ℕ → ℕ
  dones_of unit moment = length (filter (λ d. list_any (λ p. p.number == d.0) (packets_of subject unit)) (take moment lines.dones))

  -- a command, with how many packets stand before it, has brought what it copies: what stands by at its destination, of each unit that it takes and
  -- that stays at its source, is as new as it was at some moment. By then all but a window of the packets before the command were processed
  pub record HasBrought (standbys : List (NamedRecord R)) (of : Command × ℕ) : Type 0 where
    pub moment : ℕ
    pub late : of.1 ≤ moment + subject.config.window
    pub stands : (source destination : List ℕ) (taken : Filter) (unit : units.Unit) → of.0.what ≡ Copy source destination (Some taken)
        → takes taken unit ≡ true → StaysAt unit source → IsAsNew subject unit (dones_of unit moment) (records_under unit destination standbys)

  -- the `standby UNIT INST RECORD` lines: where no completed plain move covered its unit, each record is that of a front of the unit's packets;
  -- with each share that is done, its units' records at the first member stand by at each other member; and what each copy that is done took
  -- stands by at its destination, or what is newer, where no two names are alike
  pub record AreStandbys (standbys : List (NamedRecord R)) : Type 0 where
    pub fronts : AllByRecursion (λ s. is_covered subject lines.answers s.unit ≡ false → IsAsNew subject s.unit 0 (s.kept ∷ [])) standbys
    pub shared : has_twice subject.config.names ≡ false
        → AllByRecursion (λ c. is_answered is_done lines.answers c.op ≡ true → IsShared lines.states standbys c.what) subject.commands
    pub copied : has_twice subject.config.names ≡ false
        → AllByRecursion (λ e. is_answered is_done lines.answers e.0.op ≡ true → HasBrought standbys e) (zip subject.commands subject.points)
