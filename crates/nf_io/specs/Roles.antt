-- The seven roles of files, this project's own: which are read, which need a name, and their places in a table.
use Rattle.std.specs.Prelude.{ℕ, Bool, true, false, nat_eq}
use Rattle.nf_io.specs.declared.outside.Role.{Role}
use Rattle.nf_io.specs.declared.outside.Role.TheVariants.{Trace, Script, JournalIn, Report, JournalOut, TraceOut, Errors}

-- the roles that are read; the others are written
abbrev pub is_read : Role → Bool
is_read Trace = true
is_read Script = true
is_read JournalIn = true
is_read role = false

-- the roles that stand for a named file; the others are the standard output and the standard error
abbrev pub needs_name : Role → Bool
needs_name Report = false
needs_name Errors = false
needs_name role = true

-- `role as usize`
abbrev pub role_place : Role → ℕ
role_place Trace = 0
role_place Script = 1
role_place JournalIn = 2
role_place Report = 3
role_place JournalOut = 4
role_place TraceOut = 5
role_place Errors = 6

-- whether two roles are one
abbrev pub same_role : Role → Role → Bool
same_role a b = nat_eq (role_place a) (role_place b)
