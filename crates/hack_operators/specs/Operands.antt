-- What a question about an operand names: which symbols a call may note.
use Rattle.hack_types.specs.declared.hack_type.HackType.{HackType}
use Rattle.hack_decls.specs.DeclState.{Symbols}
use Rattle.hack_decls.specs.Names.{TypeIn}
use Rattle.hack_sub.specs.Named.{Around}
use Rattle.hack_sub.specs.declared.scope.Scope.{Scope}

-- what a scope names, and what the type names
pub record OperandIn (symbols : Symbols) (scope : Scope) (ty : HackType) : Type 0 where
  pub around : Around symbols scope
  pub operand : TypeIn symbols ty

-- what two types name
pub record OperandsIn (symbols : Symbols) (S T : HackType) : Type 0 where
  pub left : TypeIn symbols S
  pub right : TypeIn symbols T
