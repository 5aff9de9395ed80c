-- What reading one role leaves of all, and reading more after it.
use Rattle.std.proofs.Common.{◌≡◌, false, refl, ◌∙◌, subst, IsTrue}
use Rattle.nf_io.specs.declared.outside.Role.{Role}
use Rattle.nf_io.specs.Meaning.{Meaning}
use Rattle.nf_io.specs.Roles.{is_read}
use Rattle.call_files.specs.Phases.{OnlyRead, ReadAlone}
use Rattle.call_files.proofs.RoleLemmas.{at_each}

-- a role that is read was read, and nothing else
pub one_read : (role : Role) (old new : Role → Meaning) → IsTrue (is_read role) → ReadAlone role old new → OnlyRead old new
one_read role old new reads alone = record {
  written = at_each role old new (λ a b. b.written ≡ a.written) alone.others (λ m. refl) alone.written;
  names = at_each role old new (λ a b. b.name ≡ a.name) alone.others (λ m. refl) alone.name;
  others = λ other unread. alone.others other (λ same.
      let never : is_read role ≡ false = subst (λ (r : Role). is_read r ≡ false) same unread in cc);
}

-- inputs were read, and then more
pub more_read : (old mid new : Role → Meaning) → OnlyRead old mid → OnlyRead mid new → OnlyRead old new
more_read old mid new first second = record {
  written = λ role. second.written role ∙ first.written role;
  names = λ role. second.names role ∙ first.names role;
  others = λ role unread. second.others role unread ∙ first.others role unread;
}
