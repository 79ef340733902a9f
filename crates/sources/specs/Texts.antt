-- What the user reads of a file that gives no program. Assumes nothing: these are definitions.
use Rattle.std.specs.Prelude.{ℕ, List, codes as chars}
use Rattle.std.specs.declared.io.ErrorKind.{ErrorKind}
use Rattle.std.specs.declared.io.ErrorKind.TheVariants.{NotFound, IsADirectory, PermissionDenied}
use Rattle.assembler.specs.declared.mistakes.AssembleError.{AssembleError}
use Rattle.assembler.specs.declared.mistakes.AssembleError.TheVariants as assembling
use Rattle.assembler.specs.Source.{mistake_of, mistake_text}
use Rattle.sources.specs.declared.failure.Failure.{Failure}
use Rattle.sources.specs.declared.failure.Failure.TheVariants.{Unread, Wrong, NoMemory}

abbrev pub unread_text : ErrorKind → List ℕ
unread_text NotFound = chars "there is no such file"
unread_text IsADirectory = chars "this is a folder, and no file"
unread_text PermissionDenied = chars "this file may not be read"
unread_text _ = chars "this file cannot be read"

abbrev pub failure_text : Failure → List ℕ
failure_text (Unread kind) = unread_text kind
failure_text (Wrong mistake) = mistake_text (mistake_of mistake)
failure_text NoMemory = chars "there is no memory left for it"

abbrev pub failure_of : AssembleError → Failure
failure_of (assembling.Wrong mistake) = Wrong mistake
failure_of assembling.NoMemory = NoMemory

abbrev pub IsUnread : Failure → Type 0
IsUnread (Unread kind) = Unit {0}
IsUnread (Wrong mistake) = ⊥
IsUnread NoMemory = ⊥
