-- What contracts see of the list of a `Plan`, and what it keeps.
use Rattle.std.specs.List.Sorted.{IsNonDecreasing}
use Rattle.std.specs.Ordering.{nat_cmp}
use Rattle.std.specs.FinSet.{FinSet, from_list}
use Rattle.bus_errors.specs.declared.plan.Plan.TheInside.{Inside}

-- what contracts see of the list
abbrev pub numbers_of : Inside → FinSet nat_cmp
numbers_of p = from_list p.numbers.items

-- the numbers ascend
abbrev pub IsPlan : Inside → Type 0
IsPlan p = IsNonDecreasing p.numbers.items
