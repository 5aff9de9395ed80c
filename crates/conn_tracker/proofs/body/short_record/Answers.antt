-- The record that numbers name is the one that their bytes spell.
use Rattle.std.proofs.Common.{arith}
use Rattle.nf_function.proofs.ShortLemmas.{IsWithin, short_in-short_bytes}
use Rattle.conn_tracker.proofs.body.short_record.Goals as goal

pub returns : goal.returns
returns c =
    let within : IsWithin c.args.body = record { third = omega arith; fourth = omega arith; last = omega arith } in
    rw (short_in-short_bytes c.args.body within) c.valid_named.ensures
