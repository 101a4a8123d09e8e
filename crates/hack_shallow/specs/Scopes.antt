-- The scope that the code's scope stands for.
use Rattle.hack_shallow.specs.declared.resolve.Scope.{Scope as Inside}
use Rattle.hack_shallow.specs.Scope.{Scope}

abbrev pub scope_of : Inside → Scope
scope_of s = record { class = s.class.now; function = s.function.now }
