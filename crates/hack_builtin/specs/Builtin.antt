-- The builtin text, line by line; each line ends with LF (docs/language.md, The builtin text).
use Rattle.std.specs.Prelude.{ℕ, List, ◌++◌, codes}
use Rattle.hack_base.specs.Script.{newline}

unfoldable pub builtin_text : List ℕ
builtin_text =
    codes "interface Traversable<+Tv> {}" ++ newline
    ++ codes "interface KeyedTraversable<+Tk, +Tv> extends Traversable<Tv> {}" ++ newline
    ++ codes "interface Container<+Tv> extends Traversable<Tv> {}" ++ newline
    ++ codes "interface KeyedContainer<+Tk as arraykey, +Tv>" ++ newline
    ++ codes "  extends Container<Tv>, KeyedTraversable<Tk, Tv> {}" ++ newline
    ++ codes "interface Throwable { public function getMessage(): string; }" ++ newline
    ++ codes "class Exception implements Throwable {" ++ newline
    ++ codes "  public function __construct(private string $message = '') {}" ++ newline
    ++ codes "  public function getMessage(): string { return $this->message; }" ++ newline
    ++ codes "}" ++ newline
