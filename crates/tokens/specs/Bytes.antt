-- The bytes of program text by name (02 §1; ASCII): what parts tokens, the bounds of digits and letters, and every sign. Words are spelled out in
-- `Tokens.antt`.
use Rattle.std.specs.Prelude.{ℕ}

-- what parts tokens: a tab, the two bytes of line ends, a blank
abbrev pub tab_byte : ℕ
tab_byte = 9

abbrev pub line_byte : ℕ
line_byte = 10

abbrev pub return_byte : ℕ
return_byte = 13

abbrev pub space_byte : ℕ
space_byte = 32

-- what a name has beside letters and digits
abbrev pub underscore_byte : ℕ
underscore_byte = 95

-- the first and the last of the digits and of the letters
abbrev pub zero_byte : ℕ
zero_byte = 48

abbrev pub nine_byte : ℕ
nine_byte = 57

abbrev pub upper_a_byte : ℕ
upper_a_byte = 65

abbrev pub upper_z_byte : ℕ
upper_z_byte = 90

abbrev pub lower_a_byte : ℕ
lower_a_byte = 97

abbrev pub lower_z_byte : ℕ
lower_z_byte = 122

-- ! % & ( ) * + , - . /
abbrev pub bang_byte : ℕ
bang_byte = 33

abbrev pub percent_byte : ℕ
percent_byte = 37

abbrev pub ampersand_byte : ℕ
ampersand_byte = 38

abbrev pub lpar_byte : ℕ
lpar_byte = 40

abbrev pub rpar_byte : ℕ
rpar_byte = 41

abbrev pub star : ℕ
star = 42

abbrev pub plus_byte : ℕ
plus_byte = 43

abbrev pub comma_byte : ℕ
comma_byte = 44

abbrev pub minus_byte : ℕ
minus_byte = 45

abbrev pub dot_byte : ℕ
dot_byte = 46

abbrev pub slash : ℕ
slash = 47

-- : ; < = >
abbrev pub colon_byte : ℕ
colon_byte = 58

abbrev pub semicolon_byte : ℕ
semicolon_byte = 59

abbrev pub less_byte : ℕ
less_byte = 60

abbrev pub equals_byte : ℕ
equals_byte = 61

abbrev pub more_byte : ℕ
more_byte = 62

-- { | }
abbrev pub lbrace_byte : ℕ
lbrace_byte = 123

abbrev pub bar_byte : ℕ
bar_byte = 124

abbrev pub rbrace_byte : ℕ
rbrace_byte = 125
