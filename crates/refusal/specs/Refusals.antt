-- The numbered refusals: what each reason's number, layer and words are, and how a refusal is written.
use Rattle.std.specs.Prelude.{ℕ, List, ◌++◌, codes, decimal}
use Rattle.refusal.specs.declared.Reason.{Reason}
use Rattle.refusal.specs.declared.Reason.TheVariants.{FieldMissing, UnexpectedTag, WrongLength, ValueCut, ValueOutOfRange, SurplusBytes, FieldsConflict, BufferTooShort, WordLength, ReservedBit, SeveralTransfers, ValueOutsideLimits, RunTooLong, TimeTooLong, LevelsOutOfRange, ImageTooShort}
use Rattle.refusal.specs.declared.Layer.{Layer}
use Rattle.refusal.specs.declared.Layer.TheVariants.{Record, Word, Run, Image}
use Rattle.refusal.specs.declared.Refusal.{Refusal}

-- the number by which a reason is known outside
abbrev pub number_of : Reason → ℕ
number_of FieldMissing = 1
number_of UnexpectedTag = 2
number_of WrongLength = 3
number_of ValueCut = 4
number_of ValueOutOfRange = 5
number_of SurplusBytes = 6
number_of FieldsConflict = 7
number_of BufferTooShort = 8
number_of WordLength = 9
number_of ReservedBit = 10
number_of SeveralTransfers = 11
number_of ValueOutsideLimits = 12
number_of RunTooLong = 13
number_of TimeTooLong = 14
number_of LevelsOutOfRange = 15
number_of ImageTooShort = 16

-- the layer that refuses for this reason
abbrev pub layer_of : Reason → Layer
layer_of FieldMissing = Record
layer_of UnexpectedTag = Record
layer_of WrongLength = Record
layer_of ValueCut = Record
layer_of ValueOutOfRange = Record
layer_of SurplusBytes = Record
layer_of FieldsConflict = Record
layer_of BufferTooShort = Record
layer_of WordLength = Word
layer_of ReservedBit = Word
layer_of SeveralTransfers = Word
layer_of ValueOutsideLimits = Word
layer_of RunTooLong = Run
layer_of TimeTooLong = Run
layer_of LevelsOutOfRange = Run
layer_of ImageTooShort = Image

-- a layer's name, as it is printed
abbrev pub layer_name : Layer → List ℕ
layer_name Record = codes "record"
layer_name Word = codes "word"
layer_name Run = codes "run"
layer_name Image = codes "image"

-- a reason in plain words
abbrev pub words_of : Reason → List ℕ
words_of FieldMissing = codes "fewer than three bytes are left where a field must begin"
words_of UnexpectedTag = codes "the tag is not the next one"
words_of WrongLength = codes "the length is not that of the tag"
words_of ValueCut = codes "fewer bytes are left than the length says"
words_of ValueOutOfRange = codes "the value is outside its list or range"
words_of SurplusBytes = codes "bytes follow the last field"
words_of FieldsConflict = codes "the field conflicts with another"
words_of BufferTooShort = codes "the buffer is too short for a written record"
words_of WordLength = codes "a control word has six bytes"
words_of ReservedBit = codes "a reserved bit is set"
words_of SeveralTransfers = codes "several transfer bits are set"
words_of ValueOutsideLimits = codes "the value is outside the counter's limits"
words_of RunTooLong = codes "a run has at most 4,096 samples"
words_of TimeTooLong = codes "the sample's time is above 1,000,000 microseconds"
words_of LevelsOutOfRange = codes "the sample's level byte is above 7"
words_of ImageTooShort = codes "fewer than ten bytes of the image are left from the place on"

-- a refusal has a reason and a place
abbrev pub refusal : Reason → ℕ → Refusal
refusal reason place = record { reason = reason; place = place }

-- `refused NUMBER LAYER PLACE`
abbrev pub refused_line : Refusal → List ℕ
refused_line r =
    codes "refused "
    ++ (decimal (number_of r.reason) ++ (codes " " ++ (layer_name (layer_of r.reason) ++ (codes " " ++ decimal r.place))))

-- the same, and the reason in words
abbrev pub explained_line : Refusal → List ℕ
explained_line r = refused_line r ++ (codes ": " ++ words_of r.reason)
