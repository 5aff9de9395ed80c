-- Steps between code and definition, which nobody has to believe: the fields that a filter gives.
use Rattle.std.specs.Prelude.{Bool, ◌||◌, is_some}
use Rattle.flow_filter.specs.FilterText.{Fields}

-- a field is given besides `local`
abbrev pub gives_more_than_local : Fields → Bool
gives_more_than_local f = is_some f.proto || is_some f.lport || is_some f.remote || is_some f.rport
