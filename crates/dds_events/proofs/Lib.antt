mod Arrows
mod KindLaws
mod Said
mod WordLaws
