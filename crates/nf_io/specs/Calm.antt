-- What a calm outside holds. This project's own.
use Rattle.std.specs.Prelude.{ℕ, List, [], take, option_map, unwrap_or, slice_get, if◌then◌else◌}
use Rattle.nf_io.specs.declared.outside.Role.{Role}
use Rattle.nf_io.specs.declared.calm.CalmOutside.{CalmOutside}
use Rattle.nf_io.specs.Roles.{role_place, is_read}
use Rattle.nf_io.specs.Meaning.{Meaning, Shown, blank, bytes_of}
use Rattle.nf_io.specs.Tapes.{left_on, meaning_on, room_on}

-- a role that is read has no faults, whatever its tape counted
abbrev pub calm : Role → Meaning → Meaning
calm role meaning = record meaning { faults = if is_read role then 0 else meaning.faults }

-- the four meanings of a role
abbrev pub calm_in : CalmOutside → Role → Meaning
calm_in outside role = calm role (unwrap_or (option_map meaning_on (slice_get outside.tapes (role_place role))) blank)

-- the bytes of a role, whatever its name is
abbrev pub calm_shown : CalmOutside → Role → List ℕ → Shown
calm_shown outside role name = bytes_of (calm_in outside role)

-- the bytes of a role that one call may take
abbrev pub calm_ahead : CalmOutside → Role → List ℕ
calm_ahead outside role = unwrap_or (option_map (λ tape. take outside.most (left_on tape)) (slice_get outside.tapes (role_place role))) []

-- how many bytes can be appended to a role without more memory
abbrev pub calm_room : CalmOutside → Role → ℕ
calm_room outside role = unwrap_or (option_map room_on (slice_get outside.tapes (role_place role))) 0
