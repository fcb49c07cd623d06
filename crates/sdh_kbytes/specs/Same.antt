-- When two words are the same.
use Rattle.std.specs.Prelude.{Bool, true, false, ◌&&◌, ◌==◌, Option, Some, None}
use Rattle.sdh_kbytes.specs.KBytes.{path_number, mark_number}
use Rattle.sdh_ringmap.specs.Requests.{code_number}
use Rattle.sdh_ringmap.specs.declared.terms.Code.{Code}
use Rattle.sdh_kbytes.specs.declared.K.{K}

abbrev pub same_code : Code → Code → Bool
same_code a b = code_number a == code_number b

-- all parts of two words are the same
unfoldable pub same_word : K → K → Bool
same_word a b =
    same_code a.code b.code && (a.to == b.to) && (a.from == b.from) && (path_number a.path == path_number b.path)
    && (mark_number a.mark == mark_number b.mark)

-- two words agree: they are the same but for their marks
unfoldable pub agrees : K → K → Bool
agrees a b = same_code a.code b.code && (a.to == b.to) && (a.from == b.from) && (path_number a.path == path_number b.path)

-- the same was heard twice: the same word, or no word
abbrev pub same_heard : Option K → Option K → Bool
same_heard None None = true
same_heard (Some a) (Some b) = same_word a b
same_heard None (Some b) = false
same_heard (Some a) None = false
