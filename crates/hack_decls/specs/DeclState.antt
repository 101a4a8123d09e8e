-- What a `Decls` means: the declarations that it answers from, and what it keeps of the questions.
use Rattle.std.specs.Prelude.{ℕ, Bool, Option, List}
use Rattle.hack_types.specs.declared.ids.SymbolId.{SymbolId}
use Rattle.hack_decls.specs.declared.folded.Folded.{Folded}

-- what is declared under each symbol, where anything is
abbrev pub Map : Type 0
Map = SymbolId → Option Folded

-- a set of symbols, as a test
abbrev pub Symbols : Type 0
Symbols = SymbolId → Bool

pub record DeclState (Base Held : Type 0) : Type 0 where
  -- the folded declarations; no call changes them
  pub map : Map
  -- the symbols that were asked for
  pub noted : Symbols
  -- how often no edge word was left; it never falls
  pub fulls : ℕ
  -- what no call changes besides
  pub base : Base
  -- what no call takes anything from
  pub held : List Held
  -- whether no call was refused
  pub clean : Bool
