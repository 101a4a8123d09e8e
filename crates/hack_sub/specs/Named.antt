-- What a question about two types names: which symbols a call may note (docs/definitions.md, Subtyping).
use Rattle.std.specs.Prelude.{IsTrue}
use Rattle.hack_types.specs.declared.hack_type.HackType.{HackType}
use Rattle.hack_decls.specs.DeclState.{Symbols}
use Rattle.hack_decls.specs.Names.{class_symbol, TypeIn}
use Rattle.hack_sub.specs.Parts.{keyed_container}
use Rattle.hack_sub.specs.Scopes.{ScopeIn}
use Rattle.hack_sub.specs.declared.scope.Scope.{Scope}

-- what a scope names, and `KeyedContainer`, is among these symbols
pub record Around (symbols : Symbols) (scope : Scope) : Type 0 where
  pub scoped : ScopeIn symbols scope
  pub keyed : IsTrue (symbols (class_symbol keyed_container))

-- and what these types name
pub record PairIn (symbols : Symbols) (scope : Scope) (S T : HackType) : Type 0 where
  pub around : Around symbols scope
  pub lower : TypeIn symbols S
  pub upper : TypeIn symbols T
