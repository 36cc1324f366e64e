-- the room that lines take, and three numbers in a line: number_limit, line_room, three_text, last_three
pub mod Lines
