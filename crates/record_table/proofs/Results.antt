-- What holds whatever a call answered holds where it failed, and where it didn't.
use Rattle.std.proofs.Common.{Result, Ok, Err, OnErr}

pub on_err_given : {T E P : Type 0} (r : Result T E) → P → OnErr r P
on_err_given (Ok x) p = tt
on_err_given (Err e) p = p
