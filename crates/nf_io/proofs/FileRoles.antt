-- What an outside over files tells of a role: it stays where the role's file does, begins as the file shows, and goes on with the bytes at hand.
use Rattle.std.proofs.Common.{◌≡◌, ℕ, List, [], Option, Some, None, Result, Ok, Err, OnOk, IsTrue, slice_index, refl, ap, ◌∙◌, subst}
use Rattle.std.specs.Prelude.{if◌then◌else◌, option_and_then, unwrap_or}
use Rattle.std.specs.Io.{StartsWith}
use Rattle.std.specs.Io.KnownBytes.{prepend_known}
use Rattle.std.proofs.Math.Seq.{take-append_seam}
use Rattle.nf_io.specs.declared.stream.Stream.{Stream}
use Rattle.nf_io.specs.declared.named.NamedFiles.{NamedFiles}
use Rattle.nf_io.specs.declared.outside.Role.{Role}
use Rattle.nf_io.specs.declared.outside.Role.TheVariants.{Trace, Script, JournalIn, Report, Errors}
use Rattle.nf_io.specs.Roles.{is_read, role_place}
use Rattle.nf_io.specs.Meaning.{Meaning, with_bytes}
use Rattle.nf_io.specs.System.{SystemBytes}
use Rattle.nf_io.specs.Streams.{FileBytes, file_ahead, stream_left, stream_written}
use Rattle.nf_io.specs.Files.{ahead_in, begun, name_in, of_role, seen_of, shown_of, stream_in, told_in}

pub same_told : {F : Type 0} (view : FileBytes F) (told : SystemBytes) (new old : NamedFiles F) (role : Role)
    → stream_in new role ≡ stream_in old role → told_in view told new role ≡ told_in view told old role
same_told view told new old Report same = refl
same_told view told new old Errors same = refl
same_told view told new old role same =
    ap (option_and_then (if is_read role then stream_left view.left told else stream_written view.written told)) same

-- what is told of a role, by its bytes and its name
abbrev by_file : Role → ℕ → Option (List ℕ) → Option (List ℕ) → Meaning
by_file role faults bytes name = record { left = (of_role role bytes).left; written = (of_role role bytes).written; faults = faults; name = name }

-- a role that got a name has the bytes that its file shows
pub bound_file : {F E : Type 0} (told : SystemBytes) (before after : Role → Option (List ℕ)) (faults : List ℕ) (old new : NamedFiles F) (role : Role)
    (name : List ℕ) (r : Result (Unit {0}) E)
    → OnOk r (after role ≡ begun told role name) → OnOk r (name_in new role ≡ Some name)
    → OnOk r (seen_of after faults new role ≡ record (with_bytes (shown_of told role name) (seen_of before faults old role)) { name = Some name })
bound_file told before after faults old new role name (Ok done) bytes named =
    ap (λ b. by_file role (slice_index faults (role_place role)) b (name_in new role)) bytes
    ∙ ap (λ n. by_file role (slice_index faults (role_place role)) (begun told role name) n) named
bound_file told before after faults old new role name (Err failed) bytes named = tt

-- known bytes begin with those in front of them
starts : (ahead : List ℕ) (known : Option (List ℕ)) (left : List ℕ) → prepend_known ahead known ≡ Some left → StartsWith left ahead
starts ahead None left is = absurd (cc)
starts ahead (Some rest) left is = subst (λ l. StartsWith l ahead) (ap (λ o. unwrap_or o []) is) (take-append_seam ahead rest)

named_starts : {F : Type 0} (remaining : F → Option (List ℕ)) (told : SystemBytes) (named : Option (Stream F)) (left : List ℕ)
    → option_and_then (stream_left remaining told) named ≡ Some left → StartsWith left (file_ahead named)
named_starts remaining told None left is = absurd (cc)
named_starts remaining told (Some stream) left is = starts _ _ left is

pub next_in : {F : Type 0} (view : FileBytes F) (told : SystemBytes) (files : NamedFiles F) (role : Role) → IsTrue (is_read role)
    → (left : List ℕ) → (of_role role (told_in view told files role)).left ≡ Some left → StartsWith left (ahead_in files role)
next_in view told files Trace read left is = named_starts view.left told files.trace left is
next_in view told files Script read left is = named_starts view.left told files.script left is
next_in view told files JournalIn read left is = named_starts view.left told files.journal_in left is
next_in view told files role read left is = absurd (cc)
