-- The words of made texts, as the code points of small Greek letters without accents.
use Rattle.std.specs.Prelude.{ℕ, List, [], ◌∷◌, ◌==◌, if◌then◌else◌}

abbrev pub kai : List ℕ
kai = 954 ∷ 945 ∷ 953 ∷ []

abbrev pub tou : List ℕ
tou = 964 ∷ 959 ∷ 965 ∷ []

abbrev pub theou : List ℕ
theou = 952 ∷ 949 ∷ 959 ∷ 965 ∷ []

abbrev pub etous : List ℕ
etous = 949 ∷ 964 ∷ 959 ∷ 965 ∷ 962 ∷ []

abbrev pub menos : List ℕ
menos = 956 ∷ 951 ∷ 957 ∷ 959 ∷ 962 ∷ []

abbrev pub dia : List ℕ
dia = 948 ∷ 953 ∷ 945 ∷ []

abbrev pub ton : List ℕ
ton = 964 ∷ 959 ∷ 957 ∷ []

abbrev pub autou : List ℕ
autou = 945 ∷ 965 ∷ 964 ∷ 959 ∷ 965 ∷ []

-- the word of a number; 7 and above have the last
abbrev pub word_at : ℕ → List ℕ
word_at n = if n == 0 then kai else (if n == 1 then tou else (if n == 2 then theou else (if n == 3 then etous else (if n == 4 then menos else (if n == 5 then dia else (if n == 6 then ton else autou))))))

-- a dot below, U+0323, after each letter
abbrev pub dotted : List ℕ → List ℕ
dotted [] = []
dotted (c ∷ cs) = c ∷ 803 ∷ dotted cs

-- the word of a number with its dots
abbrev pub dotted_at : ℕ → List ℕ
dotted_at n = dotted (word_at n)
