-- A record that is dropped if nothing keeps it says as much as it did.
use Rattle.std.proofs.Common.{◌≡◌, is_some, true, arith}
use Rattle.pc_records.specs.Rows.{Record, stored, is_in_open_set, is_in_closed_set, at_point, requests_on}
use Rattle.pc_records.specs.RowSteps.{if_kept}
use Rattle.pc_records.specs.Following.{stands_kept}

pub stored-if : (r : Record) → stored (if_kept r) ≡ r.value
stored-if r = grind arith

pub requests-if : (r : Record) → requests_on (if_kept r) ≡ r.requests
requests-if r = grind arith

pub open-if : (r : Record) → is_in_open_set (if_kept r) ≡ r.is_in_open_set
open-if r = grind arith

pub closed-if : (r : Record) → is_in_closed_set (if_kept r) ≡ r.is_in_closed_set
closed-if r = grind arith

-- what a key of the closed set has at the point
pub point-if : (r : Record) → r.is_in_closed_set ≡ true → at_point (if_kept r) ≡ r.pinned
point-if r closed = grind arith

pub kept-if : (r : Record) → is_some (if_kept r) ≡ stands_kept (if_kept r)
kept-if r = grind arith
