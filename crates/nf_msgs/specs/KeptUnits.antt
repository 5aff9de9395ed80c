-- Steps between code and definition, which nobody has to believe: units as they stand in a note.
use Rattle.std.specs.Prelude.{List, [], ◌∷◌}
use Rattle.nf_function.specs.declared.unit.Unit.{Unit}
use Rattle.nf_function.specs.declared.unit.Unit.TheVariants.{Flow as OfFlow, Host as OfHost}
use Rattle.nf_msgs.specs.declared.kept.KeptForm.{KeptForm}
use Rattle.nf_msgs.specs.declared.kept.KeptForm.TheVariants.{Flow as FlowAlone, Host as HostAlone, List as Listed}

-- the units that stand so
abbrev pub units_of : KeptForm → List Unit
units_of (FlowAlone proto lport rport local remote) =
    OfFlow (record { local = local; remote = remote; lport = lport; rport = rport; proto = proto }) ∷ []
units_of (HostAlone address) = OfHost address ∷ []
units_of (Listed units) = units
