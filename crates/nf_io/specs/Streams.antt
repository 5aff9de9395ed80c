-- What a named file has still to give, and what was written to it, where the system tells it. This project's own.
use Rattle.std.specs.Prelude.{ℕ, List, [], slice_range, Option, None, Some, string_bytes}
use Rattle.std.specs.Io.KnownBytes.{prepend_known}
use Rattle.nf_io.specs.System.{SystemBytes}
use Rattle.nf_io.specs.declared.read_ahead.ReadAhead.{ReadAhead}
use Rattle.nf_io.specs.declared.stream.Stream.{Stream}

-- the bytes that were read ahead and not yet taken
abbrev pub bytes_ahead : ReadAhead → List ℕ
bytes_ahead ahead = slice_range ahead.bytes.items ahead.start ahead.end

-- the bytes of a file at hand, if there is one
abbrev pub file_ahead : {F : Type 0} → Option (Stream F) → List ℕ
file_ahead None = []
file_ahead (Some stream) = bytes_ahead stream.ahead

-- the name of a file
abbrev pub stream_name : {F : Type 0} → Stream F → List ℕ
stream_name stream = string_bytes stream.name

-- how the bytes of an open file are told: those that it has left, and those that it holds
pub record FileBytes (F : Type 0) : Type 0 where
  pub left : F → Option (List ℕ)
  pub written : F → Option (List ℕ)

-- what a file shows, or what it will show once it is open
abbrev pub bytes_shown : {F : Type 0} → (F → Option (List ℕ)) → Option (List ℕ) → Option F → Option (List ℕ)
bytes_shown view at_first None = at_first
bytes_shown view at_first (Some file) = view file

-- the bytes that a file has still to give: those read ahead, and then those that the file itself has left
abbrev pub stream_left : {F : Type 0} → (F → Option (List ℕ)) → SystemBytes → Stream F → Option (List ℕ)
stream_left remaining told stream = prepend_known (bytes_ahead stream.ahead) (bytes_shown remaining (told.opened (stream_name stream)) stream.file)

-- the bytes that were written to a file
abbrev pub stream_written : {F : Type 0} → (F → Option (List ℕ)) → SystemBytes → Stream F → Option (List ℕ)
stream_written contents told stream = bytes_shown contents (told.created (stream_name stream)) stream.file
